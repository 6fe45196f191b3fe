use Rattle.std.proofs.Common.{map, ap, ◌∙◌, arith}
use Rattle.referencing.specs.Document.{document_of}
use Rattle.ref_bundle.proofs.Lists.{taken_all}
use Rattle.ref_bundle.proofs.Running.{map_twice}
use Rattle.ref_further.specs.Further.{source_of}
use Rattle.ref_further.proofs.reading.sources_of.Goals as goal

pub returns : goal.returns
returns c =
    let documents = c.documents-documents.result.now in
    record {
      value = c.loop-document.invariant ∙ taken_all (λ d. source_of (document_of d)) documents c.loop-document.document-index (omega arith)
          ∙ map_twice source_of document_of documents ∙ ap (map source_of) c.documents-documents.ensures.value;
    }
