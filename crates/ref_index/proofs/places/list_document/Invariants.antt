use Rattle.std.proofs.Common.{◌-◌, map, length}
use Rattle.ref_definitions.specs.Places.{places}
use Rattle.ref_index.specs.Document.{document_of}
use Rattle.ref_index.specs.Listing.{listed_of}
use Rattle.ref_index.specs.inner.Queue.{IsListedTo}
use Rattle.ref_index.proofs.places.list_document.Given as goal

abbrev pub invariant-loop-head : goal.invariant-loop-head
invariant-loop-head l = IsListedTo (document_of l.document) l.number (map listed_of l.fn.list.items) (map listed_of l.list.items) l.queue.items l.head

abbrev pub decreases-loop-head : goal.decreases-loop-head
decreases-loop-head l = length (places (document_of l.document)) - l.head
