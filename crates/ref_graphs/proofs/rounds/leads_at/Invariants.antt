use Rattle.std.proofs.Common.{◌≡◌, map, take}
use Rattle.ref_graphs.specs.inner.Rounds.{by_of}
use Rattle.ref_graphs.proofs.rounds.leads_at.Given as goal

abbrev pub invariant-loop-step : goal.invariant-loop-step
invariant-loop-step l = l.list.items ≡ map (by_of l.by) (take l.step-index l.steps)
