use Rattle.std.specs.Prelude.{slice_get, MatchOption}
use Rattle.std.proofs.Common.{◌≡◌, ◌++◌, ◌∷◌, [], Some, None, refl, sym, subst, ◌∙◌, rules}
use Rattle.referencing.specs.Document.{document_of}
use Rattle.ref_definitions.specs.World.{local_documents}
use Rattle.ref_bundle.proofs.Lists.{got}
use Rattle.ref_bundle.specs.declared.own.Own.{Own}
use Rattle.ref_bundle.specs.inner.Seen.{numbered_document}
use Rattle.ref_bundle.proofs.Gathering.{document_at}
use Rattle.ref_bundle.proofs.own.push.Goals as goal

pub returns-in_ok-push : goal.returns-in_ok-push
returns-in_ok-push c =
    let docs = c.documents.result.now in
    let layer = local_documents c.args.registry.now in
    let doc = c.in-Some.document.now in
    let there : slice_get docs c.args.number ≡ Some doc = sym (got docs c.args.number c.get.result c.get.ensures.lookup) ∙ search rules in
    let at : slice_get layer c.args.number ≡ Some (document_of doc) = document_at document_of docs layer c.args.number (Some doc) c.documents.ensures.value there in
    let o = c.own_of.result in
    let added : c.push.new.self.items ≡ c.args.owns.now.items ++ o ∷ [] = search rules in
    subst (λ d. MatchOption d (c.push.new.self.items ≡ c.args.owns.now.items) (λ d. (o : Own) × (c.push.new.self.items ≡ c.args.owns.now.items ++ o ∷ []) × (numbered_document o ≡ (c.args.number, d)) × (o.places ≡ c.args.places)))
    (sym at) (o, added, c.own_of.ensures.document, c.own_of.ensures.places)

pub returns-in_default : goal.returns-in_default
returns-in_default c =
    let docs = c.documents.result.now in
    let layer = local_documents c.args.registry.now in
    let there : slice_get docs c.args.number ≡ None = sym (got docs c.args.number c.get.result c.get.ensures.lookup) ∙ search rules in
    let at : slice_get layer c.args.number ≡ None = document_at document_of docs layer c.args.number None c.documents.ensures.value there in
    subst (λ d. MatchOption d (c.args.owns.now.items ≡ c.args.owns.now.items) (λ d. (o : Own) × (c.args.owns.now.items ≡ c.args.owns.now.items ++ o ∷ []) × (numbered_document o ≡ (c.args.number, d)) × (o.places ≡ c.args.places)))
    (sym at) refl
