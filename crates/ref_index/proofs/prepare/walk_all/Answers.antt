use Rattle.std.proofs.Common.{◌≡◌, ◌∷◌, ◌++◌, [], map, ap, sym, subst, ◌∙◌, append_assoc, rules}
use Rattle.std.specs.Vec.Iter.{into_iter_items}
use Rattle.std.proofs.lemmas.List.{map-append}
use Rattle.ref_definitions.specs.Wants.{faults}
use Rattle.ref_index.specs.Document.{document_of}
use Rattle.ref_index.specs.Faults.{IsFirstFault}
use Rattle.ref_index.proofs.Retrieving.{first_of_more}
use Rattle.ref_index.proofs.prepare.walk_all.Goals as goal

pub returns-in_err-walked-clause-fault : goal.returns-in_err-walked-clause-fault
returns-in_err-walked-clause-fault c =
    let d = c.in-Some.document in
    let rest = into_iter_items c.next.new.self in
    let steps : into_iter_items c.loop-document.document-iterator ≡ d ∷ rest = c.in-Some.ensures.steps.0 in
    let items : (c.loop-document.yielded ++ d ∷ []) ++ rest ≡ c.args.documents.items =
    append_assoc c.loop-document.yielded (d ∷ []) rest ∙ ap (λ l. c.loop-document.yielded ++ l) (sym steps) ∙ c.loop-document.invariant.1 ∙ c.into_iter-document-iterator.ensures.into_iter_gives.0 in
    let front : map document_of (c.loop-document.yielded ++ d ∷ []) ≡ c.loop-document.walked ++ document_of d ∷ [] =
    map-append document_of c.loop-document.yielded (d ∷ []) ∙ ap (λ l. l ++ document_of d ∷ []) (sym c.loop-document.invariant.0) in
    let all = sym (map-append document_of (c.loop-document.yielded ++ d ∷ []) rest) ∙ ap (map document_of) items in
    let fault = first_of_more (map document_of (c.loop-document.yielded ++ d ∷ [])) (map document_of rest) (map document_of c.args.documents.items) c.in_err-walked.field-0.0 all
    (subst (λ l. IsFirstFault (faults l) c.in_err-walked.field-0.0) (sym front) c.in_err-walked.ensures.fault) in
    search rules
