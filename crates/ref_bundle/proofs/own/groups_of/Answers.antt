use Rattle.std.proofs.Common.{◌≡◌, ◌∷◌, [], map, option_map, ap, sym, ◌∙◌, rules}
use Rattle.std.specs.Option.{option_to_list}
use Rattle.std.specs.Vec.Iter.{into_iter_items}
use Rattle.std.proofs.lemmas.List.{nil_from_length}
use Rattle.referencing.specs.ListedPlaces.{listed_of}
use Rattle.ref_definitions.specs.World.{local_documents}
use Rattle.ref_bundle.specs.inner.Seen.{see_listed, all_seen, gathered_places}
use Rattle.ref_bundle.specs.Saying.{seen_spot}
use Rattle.ref_bundle.proofs.Gathering.{gathered_append, all_gathered, items}
use Rattle.ref_bundle.proofs.own.groups_of.Goals as goal

pub loop-place-init : goal.loop-place-init
loop-place-init c =
    let layer = local_documents c.args.registry.now in
    let all : into_iter_items c.into_iter-place-iterator.result ≡ c.in_ok-places.places.items = c.into_iter-place-iterator.ensures.into_iter_gives.0 in
    let empty : c.new-groups.result.items ≡ [] = search rules in
    let begin = all_seen layer (map listed_of (into_iter_items c.into_iter-place-iterator.result)) in
    (ap (λ g. gathered_places (map items g) begin) empty ∙ ap (λ l. gathered_places [] (all_seen layer l)) (ap (map listed_of) all ∙ c.in_ok-places.ensures.value), search rules)

pub loop-place-preserved : goal.loop-place-preserved
loop-place-preserved c =
    let layer = local_documents c.args.registry.now in
    let place = c.in-Some.place in
    let rest = into_iter_items c.next.new.self in
    let before = map items c.loop-place.groups.items in
    let steps : into_iter_items c.loop-place.place-iterator ≡ place ∷ rest = c.in-Some.ensures.steps.0 in
    let one : option_map seen_spot c.spot_of.result ≡ see_listed layer (listed_of place) = c.spot_of.ensures in
    let put : map items c.put_some.new.groups.items ≡ gathered_places before (option_to_list (option_map seen_spot c.spot_of.result)) = c.in_ok-put_some.ensures in (
      ap (λ g. gathered_places g (all_seen layer (map listed_of rest))) (put ∙ ap (λ o. gathered_places before (option_to_list o)) one)
          ∙ sym (gathered_append before (option_to_list (see_listed layer (listed_of place))) (all_seen layer (map listed_of rest)))
          ∙ ap (λ l. gathered_places before (all_seen layer (map listed_of l))) (sym steps)
          ∙ c.loop-place.invariant.0,
      search rules,
    )

pub returns : goal.returns
returns c =
    let layer = local_documents c.args.registry.now in
    let none : into_iter_items c.loop-place.place-iterator ≡ [] = nil_from_length (into_iter_items c.loop-place.place-iterator) (sym c.loop-place.invariant.1 ∙ c.in-None.ensures.steps.0) in
    ap (λ l. gathered_places (map items c.loop-place.groups.items) (all_seen layer (map listed_of l))) (sym none) ∙ c.loop-place.invariant.0 ∙ all_gathered layer c.in_ok-places.ensures.there
