use Rattle.std.proofs.Common.{◌≡◌, ◌∷◌, [], ◌+◌, map, drop, sym, ap, ◌∙◌, subst}
use Rattle.std.proofs.lemmas.List.{map-append, drop_more}
use Rattle.serde_json.specs.View.{view}
use Rattle.ref_lint.specs.Dangling.{dangling}
use Rattle.ref_serve.specs.Listings.{dangling_object}
use Rattle.ref_serve.proofs.DanglingList.{IsLeft, one_object_more}
use Rattle.ref_serve.proofs.listing.dangling_in.Goals as goal

pub loop-entry-preserved : goal.loop-entry-preserved
loop-entry-preserved c =
    let entries = c.deref-entry-items.result.now in
    let i = c.loop-entry.entry-index in
    let all = map dangling_object (dangling c.args.registry.now) in
    let items = c.loop-entry.list.items in
    let entry = c.entry-item.result in
    let object = c.in_ok-object.object in
    let rest = drop (i + 1) entries in
    let steps : drop i entries ≡ entry ∷ rest = drop_more entries i entry c.loop-entry-test.true ∙ ap (λ x. x ∷ rest) (sym c.entry-item.is) in
    subst (λ ds. IsLeft rest ds all) (sym (ap (map view) c.in_ok-push.ensures.items ∙ map-append view items (object ∷ [])))
    (one_object_more entry rest (map view items) all (view object) (subst (λ es. IsLeft es (map view items) all) steps c.loop-entry.invariant) c.in_ok-object.ensures)
