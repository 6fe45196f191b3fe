use Rattle.std.proofs.Common.{◌≡◌}
use Rattle.ref_draft.specs.Views.{objects_of}
use Rattle.ref_draft.proofs.spec.children.next_object.Given as goal

abbrev pub invariant-loop-value : goal.invariant-loop-value
invariant-loop-value l =
    (goal.iterator-loop-value).can_next l.values × (goal.iterator-loop-value).is_finite l.values × (objects_of l.fn.values ≡ objects_of l.values)
