use Rattle.std.proofs.Common.{map, drop}
use Rattle.ref_index.specs.Document.{document_of}
use Rattle.ref_index.specs.inner.NormalUris.{HaveNormalUris}
use Rattle.ref_index.proofs.index.are_normal.Given as goal

abbrev pub invariant-loop-document : goal.invariant-loop-document
invariant-loop-document l = HaveNormalUris (map document_of (drop l.document-index l.documents)) → HaveNormalUris (map document_of l.documents)
