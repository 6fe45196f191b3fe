use Rattle.std.proofs.Common.{◌≡◌, map, take}
use Rattle.referencing.specs.Document.{document_of}
use Rattle.ref_reach.specs.Views.{source_of as source_view}
use Rattle.ref_further.specs.Further.{source_of}
use Rattle.ref_further.proofs.reading.sources_of.Given as goal

abbrev pub invariant-loop-document : goal.invariant-loop-document
invariant-loop-document l = map source_view l.sources.items ≡ map (λ d. source_of (document_of d)) (take l.document-index l.documents)
