use Rattle.std.proofs.Common.{◌≡◌, map, take}
use Rattle.ref_graphs.specs.Views.{circle_of, round_of}
use Rattle.ref_graphs.specs.inner.Rounds.{round_at}
use Rattle.ref_graphs.proofs.rounds.rounds_at.Given as goal

abbrev pub invariant-loop-circle : goal.invariant-loop-circle
invariant-loop-circle l = map round_of l.list.items ≡ map (round_at l.by) (map circle_of (take l.circle-index l.circles))
