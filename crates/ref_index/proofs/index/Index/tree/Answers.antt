use Rattle.std.proofs.Common.{◌≡◌, Some, option_map, option_copied, sym, ap, ◌∙◌}
use Rattle.std.specs.Prelude.{slice_get}
use Rattle.std.proofs.lemmas.Option.{slice_get-map}
use Rattle.ref_index.specs.Document.{document_of}
use Rattle.ref_index.proofs.Looking.{got}
use Rattle.ref_index.proofs.index.Index.tree.Goals as goal

pub returns : goal.returns
returns c =
    let n = c.args.document in
    let items = c.self.inside.documents.items in
    let d = c.in_ok-document.document.now in
    let there : option_copied c.get.result ≡ slice_get items n = got c.deref.result.now n c.get.result c.get.ensures.lookup ∙ ap (λ l. slice_get l n) c.deref.ensures.value in
    let item : slice_get items n ≡ Some d = sym there ∙ ap option_copied c.in_ok-document.was in
    let document : slice_get c.args.self.now n ≡ Some (document_of d) = ap (λ l. slice_get l n) (sym c.self.view_is) ∙ slice_get-map document_of items n ∙ ap (option_map document_of) item in
    record { value = ap (λ t. Some t) c.value.ensures.value ∙ sym (ap (option_map (λ x. x.tree)) document) }
