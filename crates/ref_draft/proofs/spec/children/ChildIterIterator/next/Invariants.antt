use Rattle.std.proofs.Common.{◌≡◌, length}
use Rattle.std.specs.Option.{option_map_or}
use Rattle.ref_draft.specs.Views.{values_left}
use Rattle.ref_draft.proofs.spec.children.ChildIterIterator.next.Given as goal

abbrev pub invariant-loop-value : goal.invariant-loop-value
invariant-loop-value l = values_left l.self ≡ values_left l.initial.self

abbrev pub decreases-loop-value : goal.decreases-loop-value
decreases-loop-value l = option_map_or length l.self.members 0
