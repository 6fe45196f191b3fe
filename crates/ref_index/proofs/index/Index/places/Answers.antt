use Rattle.std.proofs.Common.{◌<◌, length, sym, subst, arith}
use Rattle.std.specs.List.{Contains}
use Rattle.ref_definitions.proofs.AtOrBelow.{place_has_base}
use Rattle.ref_index.specs.Document.{document_of}
use Rattle.ref_definitions.proofs.Lists.{in_map}
use Rattle.ref_index.proofs.index.Index.places.Goals as goal

pub list_document-requires : goal.list_document-requires
list_document-requires c = λ p there.
    let documents = c.documents-documents.result.now in
    let d = c.index-documents-number.result in
    let within : c.loop-number.number < length documents = omega arith in
    let own = in_map document_of documents d (c.loop-number.number, within, sym c.index-documents-number.is) in
    place_has_base c.args.self.now (document_of d) p c.requires (subst (λ layer. Contains layer (document_of d)) c.documents-documents.ensures.value own) there
