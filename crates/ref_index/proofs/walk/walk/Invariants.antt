use Rattle.std.proofs.Common.{◌-◌, length}
use Rattle.ref_definitions.specs.Places.{places}
use Rattle.ref_index.specs.Document.{document_of}
use Rattle.ref_index.specs.inner.Visits.{IsAt}
use Rattle.ref_index.proofs.walk.walk.Given as goal

abbrev pub invariant-loop-head : goal.invariant-loop-head
invariant-loop-head l = IsAt (document_of l.document) l.number l.fn.found l.found l.queue.items l.head

abbrev pub decreases-loop-head : goal.decreases-loop-head
decreases-loop-head l = length (places (document_of l.document)) - l.head
