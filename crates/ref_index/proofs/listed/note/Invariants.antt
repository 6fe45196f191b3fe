use Rattle.std.proofs.Common.{◌∷◌, map, take}
use Rattle.ref_definitions.specs.Places.{root}
use Rattle.ref_index.specs.Document.{document_of}
use Rattle.ref_index.specs.inner.Visits.{AddsPlaces}
use Rattle.ref_index.specs.Visit.{place_of}
use Rattle.ref_index.proofs.listed.note.Given as goal

abbrev pub invariant-loop-place : goal.invariant-loop-place
invariant-loop-place l =
    AddsPlaces (document_of l.document) l.number (root (document_of l.document) ∷ map place_of (take l.place-index l.below)) l.fn.found l.found
