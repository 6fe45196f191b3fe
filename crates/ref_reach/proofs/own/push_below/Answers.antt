use Rattle.std.proofs.Common.{◌≡◌, ◌∙◌, ◌++◌, Some, map, slice_get, ap, rules}
use Rattle.std.proofs.lemmas.List.{map-append}
use Rattle.ref_reach.specs.Views.{place_of}
use Rattle.ref_reach.proofs.Growing.{got, lent_item}
use Rattle.ref_reach.proofs.own.push_below.Goals as goal

pub returns : goal.returns
returns c =
    let old = c.args.places.now.items in
    let p = c.in-Some.place.now in
    let there : slice_get old c.args.number ≡ Some p = search (rules, lent_item c.deref.result.now c.args.number c.in-Some.place c.in-Some.ensures.lookup) in (
      place_of p,
      got place_of old c.args.number p there,
      ap (map place_of) c.in_ok-append.ensures.items ∙ map-append place_of old c.in_ok-below.below.items ∙ ap (λ l. map place_of old ++ l) c.in_ok-below.ensures.value,
    )
