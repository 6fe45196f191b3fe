use Rattle.std.proofs.Common.{◌≡◌, None, Some, flat_map, unwrap_or, ap, sym, ◌∙◌, arith, rules}
use Rattle.std.specs.Option.{option_to_list}
use Rattle.ref_draft.specs.declared.draft.Draft.TheVariants.{Draft202012}
use Rattle.ref_definitions.specs.World.{local_documents}
use Rattle.referencing.specs.Document.{document_of}
use Rattle.ref_bundle.specs.inner.First.{first}
use Rattle.ref_bundle.proofs.Lists.{taken_all}
use Rattle.ref_bundle.proofs.Firsts.{found_here, none_more}
use Rattle.ref_further.specs.Further.{unnamed_draft}
use Rattle.ref_further.proofs.Groups.{first_is}
use Rattle.ref_further.proofs.reading.draft_of.Goals as goal

pub returns-in-Some : goal.returns-in-Some
returns-in-Some c =
    let l = c.loop-document in
    let documents = c.documents-document-items.result.now in
    let layer = local_documents c.args.registry.now in
    let some : c.unnamed_draft.result ≡ Some c.in-Some.draft = search rules in
    let here : Some c.in-Some.draft ≡ first (unnamed_draft (document_of c.document-item.result)) = ap first (ap option_to_list (sym some) ∙ c.unnamed_draft.ensures) in
    let found = found_here unnamed_draft document_of documents l.document-index c.document-item.result c.in-Some.draft c.loop-document-test.true c.document-item.is l.invariant here in
    record { value = ap (λ o. unwrap_or o Draft202012) (found ∙ ap (λ ds. first (flat_map unnamed_draft ds)) c.documents-document-items.ensures.value ∙ first_is (flat_map unnamed_draft layer)) }

pub returns : goal.returns
returns c =
    let l = c.loop-document in
    let documents = c.documents-document-items.result.now in
    let layer = local_documents c.args.registry.now in
    let none : first (flat_map unnamed_draft layer) ≡ None =
    sym (ap (λ ds. first (flat_map unnamed_draft ds)) (taken_all document_of documents l.document-index (omega arith) ∙ c.documents-document-items.ensures.value)) ∙ l.invariant in
    record { value = ap (λ o. unwrap_or o Draft202012) (sym none ∙ first_is (flat_map unnamed_draft layer)) }

pub loop-document-preserved : goal.loop-document-preserved
loop-document-preserved c =
    let l = c.loop-document in
    let none : c.unnamed_draft.result ≡ None = search rules in
    none_more unnamed_draft document_of c.documents-document-items.result.now l.document-index c.document-item.result c.loop-document-test.true c.document-item.is l.invariant
    (ap first (ap option_to_list (sym none) ∙ c.unnamed_draft.ensures))
