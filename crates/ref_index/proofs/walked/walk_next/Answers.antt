use Rattle.std.proofs.Common.{◌≡◌, ◌∷◌, ◌++◌, [], ◌∙◌, sym, ap, subst, map, length, Some, IfErr, arith}
use Rattle.std.specs.Prelude.{slice_get}
use Rattle.std.proofs.lemmas.List.{map-append, length-map}
use Rattle.std.proofs.lemmas.Option.{get_or_from_slice_get}
use Rattle.ref_index.specs.Document.{document_of}
use Rattle.ref_index.specs.Faults.{IsFirstFault}
use Rattle.ref_index.specs.inner.Visits.{IsFound, WalksOver}
use Rattle.ref_index.proofs.Layers.{at_length, faults_more, found_more, walk_ended, walk_refused}
use Rattle.ref_index.proofs.Listing.{on_ok}
use Rattle.ref_index.proofs.walked.walk_next.Goals as goal

-- the document that is walked is the last of them
last_walked : (c : goal.After-walk_or_note) → WalksOver (document_of c.args.document) (length (map document_of c.args.documents.now.items)) c.args.found.now c.walk_or_note.new.found c.walk_or_note.result
last_walked c =
    let old = c.args.documents.now.items in
    let document = c.args.document in
    let number : c.len-number.result ≡ length old = omega arith in
    let at : slice_get c.push.new.documents.items c.len-number.result ≡ Some document = ap (λ l. slice_get l c.len-number.result) c.in_ok-push.ensures ∙ ap (slice_get (old ++ document ∷ [])) number ∙ at_length old document in
    let same = c.index.ensures ∙ get_or_from_slice_get c.push.new.documents.items c.len-number.result document c.index.result.now at in
    subst (λ n. WalksOver (document_of document) n c.args.found.now c.walk_or_note.new.found c.walk_or_note.result) (number ∙ sym (length-map old document_of))
    (subst (λ d. WalksOver (document_of d) c.len-number.result c.args.found.now c.walk_or_note.new.found c.walk_or_note.result) same c.walk_or_note.ensures)

pub returns-clause-found : goal.returns-clause-found
returns-clause-found c =
    let old = c.args.documents.now.items in
    let layer = map document_of old in
    let document = c.args.document in
    let layered : map document_of c.push.new.documents.items ≡ layer ++ document_of document ∷ [] = ap (map document_of) c.in_ok-push.ensures ∙ map-append document_of old (document ∷ []) in
    on_ok c.walk_or_note.result
    (λ walk. subst (λ l. IsFound l c.walk_or_note.new.found) (sym layered) (found_more layer (document_of document) c.args.found.now c.walk_or_note.new.found c.requires.found walk))
    (walk_ended (document_of document) (length layer) c.args.found.now c.walk_or_note.new.found c.walk_or_note.result (last_walked c))

pub returns-clause-fault : goal.returns-clause-fault
returns-clause-fault c =
    let layer = map document_of c.args.documents.now.items in
    let d = document_of c.args.document in
    subst (λ fs. IfErr c.walk_or_note.result (IsFirstFault fs)) (faults_more layer d c.requires.found.faultless)
    (walk_refused d (length layer) c.args.found.now c.walk_or_note.new.found c.walk_or_note.result (last_walked c))
