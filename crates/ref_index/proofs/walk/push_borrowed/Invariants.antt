use Rattle.std.proofs.Common.{map}
use Rattle.ref_draft.specs.Views.{walked_child}
use Rattle.ref_index.specs.inner.Visits.{Came}
use Rattle.ref_index.proofs.walk.push_borrowed.Given as goal

abbrev pub invariant-loop-child : goal.invariant-loop-child
invariant-loop-child l = Came l.path l.base.value (map walked_child l.yielded) l.initial.queue.items l.queue.items
