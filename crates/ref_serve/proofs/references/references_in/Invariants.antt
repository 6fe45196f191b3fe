use Rattle.std.proofs.Common.{map, drop}
use Rattle.serde_json.specs.View.{view}
use Rattle.ref_index.specs.Listing.{listed_of}
use Rattle.ref_serve.specs.References.{references_of}
use Rattle.ref_serve.specs.inner.Seen.{asked_view}
use Rattle.ref_serve.proofs.Referring.{IsLeft}
use Rattle.ref_serve.proofs.references.references_in.Given as goal

abbrev pub invariant-loop-place : goal.invariant-loop-place
invariant-loop-place l =
    IsLeft (asked_view l.asked) l.document (map listed_of (drop l.place-index l.place-items)) (map view l.list.items) (references_of (asked_view l.asked).world l.document)
