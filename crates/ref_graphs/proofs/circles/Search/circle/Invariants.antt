use Rattle.std.proofs.Common.{◌≡◌, ◌++◌, map, drop}
use Rattle.ref_graphs.specs.declared.circles.Opened.{Opened}
use Rattle.ref_graphs.proofs.circles.Search.circle.Given as goal

abbrev pub invariant-loop-opened : goal.invariant-loop-opened
invariant-loop-opened l = l.numbers.items ++ map (λ (e : Opened). e.by) (drop l.opened-index l.opened-items) ≡ map (λ (e : Opened). e.by) l.opened-items
