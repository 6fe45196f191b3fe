use Rattle.std.proofs.Common.{◌≡◌}
use Rattle.std.specs.Cmp.Lexicographic.{pointwise}
use Rattle.ref_parts.proofs.list.ListPartialEq.eq.Given as goal

abbrev pub invariant-loop-a : goal.invariant-loop-a
invariant-loop-a g l = pointwise g.T.PartialEq.eq l.left l.right ≡ pointwise g.T.PartialEq.eq l.initial.left l.initial.right
