use Rattle.std.proofs.Common.{map, length, ◌-◌}
use Rattle.ref_bundle.specs.inner.Reach.{state, IsRun}
use Rattle.ref_bundle.proofs.reach.reach.Given as goal

abbrev pub invariant-loop-head : goal.invariant-loop-head
invariant-loop-head l = IsRun (map (λ n. n.items) l.lists) l.root l.head (state l.reached)

abbrev pub decreases-loop-head : goal.decreases-loop-head
decreases-loop-head l = length l.lists - l.head
