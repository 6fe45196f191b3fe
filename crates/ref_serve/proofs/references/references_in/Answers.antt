use Rattle.std.proofs.Common.{◌≡◌, ◌≤◌, ◌∷◌, [], ◌+◌, Ok, length, map, drop, sym, ap, ◌∙◌, subst, rules}
use Rattle.std.proofs.lemmas.List.{drop_all, drop_more}
use Rattle.serde_json.specs.View.{view}
use Rattle.serde_json.proofs.Views.{view-Array}
use Rattle.ref_index.specs.Listing.{listed_of}
use Rattle.ref_serve.specs.References.{references_of}
use Rattle.ref_serve.specs.inner.Seen.{asked_view}
use Rattle.ref_serve.proofs.Referring.{IsLeft, one_place_more, all_places}
use Rattle.ref_serve.proofs.references.references_in.Goals as goal

pub loop-place-preserved : goal.loop-place-preserved
loop-place-preserved c =
    let asked = asked_view c.args.asked.now in
    let document = c.args.document in
    let items = c.deref-place-items.result.now in
    let i = c.loop-place.place-index in
    let place = c.place-item.result in
    let old = c.loop-place.list.items in
    let all = references_of asked.world document in
    let rest = drop (i + 1) items in
    let steps : drop i items ≡ place ∷ rest = drop_more items i place c.loop-place-test.true ∙ ap (λ x. x ∷ rest) (sym c.place-item.is) in
    one_place_more asked document (listed_of place) (map listed_of rest) old c.push_asked.new.list.items all (subst (λ ps. IsLeft asked document (map listed_of ps) (map view old) all) steps c.loop-place.invariant) c.in_ok-push_asked.ensures

pub returns : goal.returns
returns c =
    let asked = asked_view c.args.asked.now in
    let document = c.args.document in
    let items = c.deref-place-items.result.now in
    let i = c.loop-place.place-index in
    let ds = map view c.loop-place.list.items in
    let all = references_of asked.world document in
    let gone : length items ≤ i = search rules in
    let none : drop i items ≡ [] = drop_all i items gone in
    (ds, all_places asked document ds all (subst (λ ps. IsLeft asked document (map listed_of ps) ds all) none c.loop-place.invariant), ap Ok (view-Array c.loop-place.list))
