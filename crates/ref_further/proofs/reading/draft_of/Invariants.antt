use Rattle.std.proofs.Common.{◌≡◌, map, flat_map, take, None}
use Rattle.referencing.specs.Document.{document_of}
use Rattle.ref_bundle.specs.inner.First.{first}
use Rattle.ref_further.specs.Further.{unnamed_draft}
use Rattle.ref_further.proofs.reading.draft_of.Given as goal

abbrev pub invariant-loop-document : goal.invariant-loop-document
invariant-loop-document l = first (flat_map unnamed_draft (map document_of (take l.document-index l.document-items))) ≡ None
