use Rattle.std.proofs.Common.{◌≡◌, ◌∷◌, [], Ok, map, vec_len, sym, ap, ◌∙◌, append-nil, rules}
use Rattle.std.specs.Vec.Iter.{into_iter_items}
use Rattle.std.proofs.lemmas.List.{nil_from_length}
use Rattle.serde_json.specs.View.{view, items_view}
use Rattle.serde_json.proofs.Views.{view-Array}
use Rattle.ref_calls.specs.Calls.{each_item, document_in, documents_of}
use Rattle.ref_calls.specs.Given.{given_of}
use Rattle.ref_calls.proofs.Further.{in_front}
use Rattle.ref_calls.proofs.Documents.{documents_next}
use Rattle.ref_calls.proofs.document.documents_of.Goals as goal

pub loop-item-preserved : goal.loop-item-preserved
loop-item-preserved c =
    let rest = into_iter_items c.next.new.self in
    let item = c.in-Some.item in
    let done = c.loop-item.documents.items in
    let field = c.args.field.now in
    let steps : into_iter_items c.loop-item.item-iterator ≡ item ∷ rest = c.in-Some.ensures.steps.0 in
    let n = vec_len c.loop-item.documents in (
      ap (λ ds. in_front (map given_of ds) (each_item (document_in field) (vec_len c.push.new.self) (items_view rest))) c.in_ok-push.ensures.items
          ∙ documents_next field n (vec_len c.push.new.self) done c.in_ok-document.document item rest c.in_ok-push.ensures.len (ap (λ k. document_in field k (view item)) (sym c.len-number.ensures) ∙ c.in_ok-document.ensures)
          ∙ ap (λ xs. in_front (map given_of done) (each_item (document_in field) n (items_view xs))) (sym steps) ∙ c.loop-item.invariant.0,
      search rules,
    )

pub returns : goal.returns
unfolding documents_of
returns c =
    let done = map given_of c.loop-item.documents.items in
    let f = document_in c.args.field.now in
    let n = vec_len c.loop-item.documents in
    let none : into_iter_items c.loop-item.item-iterator ≡ [] = nil_from_length (into_iter_items c.loop-item.item-iterator) (sym c.loop-item.invariant.1 ∙ c.in-None.ensures.steps.0) in
    let read : each_item f 0 (items_view c.in-Array.items.items) ≡ Ok done =
    ap (λ xs. each_item f 0 (items_view xs)) (sym c.into_iter-item-iterator.ensures.into_iter_gives.0) ∙ sym c.loop-item.invariant.0 ∙ ap (λ xs. in_front done (each_item f n (items_view xs))) none
    ∙ ap Ok (append-nil done) in
    rw (c.in-Array.is, view-Array) read
