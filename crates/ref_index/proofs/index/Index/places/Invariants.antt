use Rattle.std.proofs.Common.{length, ◌-◌, ◌≡◌, ◌≤◌, ◌++◌, map, drop}
use Rattle.ref_definitions.specs.Listing.{listed_from, local_places}
use Rattle.ref_index.specs.Document.{document_of}
use Rattle.ref_index.specs.Listing.{listed_of}
use Rattle.ref_index.proofs.index.Index.places.Given as goal

abbrev pub invariant-loop-number : goal.invariant-loop-number
invariant-loop-number l =
    (l.number ≤ length l.documents)
    × (local_places (map document_of l.documents) ≡ map listed_of l.list.items ++ listed_from l.number (map document_of (drop l.number l.documents)))

abbrev pub decreases-loop-number : goal.decreases-loop-number
decreases-loop-number l = length l.documents - l.number
