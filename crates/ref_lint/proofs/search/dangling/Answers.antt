use Rattle.std.proofs.Common.{◌≡◌, ◌∷◌, ◌++◌, [], map, flat_map, ap, sym, subst, ◌∙◌, append_assoc, append-nil, rules}
use Rattle.std.specs.List.{AllZip}
use Rattle.std.specs.Option.{option_to_list}
use Rattle.std.specs.Vec.Iter.{into_iter_items}
use Rattle.std.proofs.lemmas.List.{nil_from_length}
use Rattle.ref_definitions.specs.Listing.{local_places}
use Rattle.ref_index.specs.Listing.{listed_of}
use Rattle.ref_definitions.specs.World.{local_documents}
use Rattle.ref_lint.specs.Entries.{IsEntryOf}
use Rattle.ref_lint.specs.Dangling.{dangling_at}
use Rattle.ref_lint.proofs.Numbering.{entry_of_one_more}
use Rattle.ref_lint.proofs.Retrieved.{entries_retrieved}
use Rattle.ref_lint.proofs.search.dangling.Goals as goal

pub loop-place-preserved : goal.loop-place-preserved
loop-place-preserved c =
    let world = c.args.registry.now in
    let before = c.loop-place.yielded in
    let place = c.in-Some.place in
    let entry = c.in_ok-entry.entry in
    let rest = into_iter_items c.next.new.self in
    let steps : into_iter_items c.loop-place.place-iterator ≡ place ∷ rest = c.in-Some.ensures.steps.0 in
    let added : c.add.new.list.items ≡ c.loop-place.list.items ++ option_to_list entry = search rules in (
      subst (λ entries. AllZip IsEntryOf entries (flat_map (dangling_at world) (map listed_of (before ++ place ∷ [])))) (sym added)
          (entry_of_one_more world before place c.loop-place.list.items entry c.loop-place.invariant.0 c.in_ok-entry.ensures.entry),
      append_assoc before (place ∷ []) rest ∙ ap (λ l. before ++ l) (sym steps) ∙ c.loop-place.invariant.1,
      search rules,
    )

-- the places that were gone over are those of the registry
value_of_all : goal.returns-clause-value
value_of_all c =
    let world = c.args.registry.now in
    let gone = c.loop-place.yielded in
    let none : into_iter_items c.loop-place.place-iterator ≡ [] = nil_from_length (into_iter_items c.loop-place.place-iterator) (sym c.loop-place.invariant.2 ∙ c.in-None.ensures.steps.0) in
    let all : gone ≡ c.in_ok-places.places.items =
    sym (append-nil gone) ∙ ap (λ l. gone ++ l) (sym none) ∙ c.loop-place.invariant.1 ∙ c.into_iter-place-iterator.ensures.into_iter_gives.0 in
    let listed : map listed_of gone ≡ local_places (local_documents world) = ap (map listed_of) all ∙ c.in_ok-places.ensures.value in
    subst (λ places. AllZip IsEntryOf c.loop-place.list.items (flat_map (dangling_at world) places)) listed c.loop-place.invariant.0

pub returns-clause-value : goal.returns-clause-value
returns-clause-value c = value_of_all c

pub returns-clause-retrieved : goal.returns-clause-retrieved
returns-clause-retrieved c = entries_retrieved c.args.registry.now c.loop-place.list.items c.references_are_retrieved.ensures.law (value_of_all c)
