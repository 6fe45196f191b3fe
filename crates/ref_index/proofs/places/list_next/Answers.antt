use Rattle.std.proofs.Common.{◌≡◌, ◌∷◌, ◌++◌, [], ◌∙◌, List, Ok, OnOk, Some, sym, ap, subst, map, rules}
use Rattle.std.specs.Prelude.{slice_get}
use Rattle.std.proofs.lemmas.List.{map-append}
use Rattle.std.proofs.lemmas.Option.{get_or_from_slice_get}
use Rattle.ref_definitions.specs.Listing.{listed_place}
use Rattle.ref_definitions.specs.Places.{children_with, children_of}
use Rattle.ref_index.specs.declared.queue.Visit.{Visit}
use Rattle.ref_index.specs.Listing.{listed_of}
use Rattle.ref_index.specs.Visit.{place_of}
use Rattle.ref_index.proofs.Listing.{on_ok}
use Rattle.ref_index.proofs.places.list_next.Goals as goal

pub returns : goal.returns
returns c = λ v at.
    let w = c.index-visit.result.now in
    let same : w ≡ v = c.index-visit.ensures ∙ get_or_from_slice_get c.args.queue.now.items c.args.head v w at in
    let based : (place_of w).base ≡ Ok c.in_ok-base.base.value = search rules in
    let before = map listed_of c.args.places.now.items in
    let longer : map listed_of c.push.new.self.items ≡ before ++ listed_place c.args.number (place_of w) ∷ [] =
    ap (map listed_of) c.in_ok-push.ensures.items ∙ map-append listed_of c.args.places.now.items (c.in_ok-place.place ∷ []) ∙ ap (λ l. before ++ l ∷ []) (c.in_ok-place.ensures based) in
    subst (λ u. OnOk c.push_children.result ((map listed_of c.push.new.self.items ≡ before ++ listed_place c.args.number (place_of u) ∷ [])
    × ((more : List Visit) × (c.push_children.new.queue.items ≡ c.args.queue.now.items ++ more) × (map place_of more ≡ children_of (place_of u))))) same
    (on_ok c.push_children.result
    (λ pushed. (
      longer,
      (
        pushed.0.0,
        pushed.0.1,
        pushed.0.2 ∙ ap (λ b. children_with b (place_of w)) (sym based),
      ),
    )) (c.push_children.ensures w (subst (λ u. slice_get c.args.queue.now.items c.args.head ≡ Some u) (sym same) at)))
