use Rattle.std.proofs.Common.{◌≡◌, ◌∙◌, ◌++◌, Some, map, slice_get, ap, rules}
use Rattle.std.proofs.lemmas.List.{map-append}
use Rattle.ref_rules.specs.Views.{spot_of}
use Rattle.ref_rules.proofs.Growing.{got, lent_item}
use Rattle.ref_rules.proofs.spots.push_below.Goals as goal

pub returns : goal.returns
returns c =
    let old = c.args.spots.now.items in
    let s = c.in-Some.spot.now in
    let there : slice_get old c.args.number ≡ Some s = search (rules, lent_item c.deref.result.now c.args.number c.in-Some.spot c.in-Some.ensures.lookup) in (
      spot_of s,
      got spot_of old c.args.number s there,
      ap (map spot_of) c.in_ok-append.ensures.items ∙ map-append spot_of old c.in_ok-below.below.items ∙ ap (λ l. map spot_of old ++ l) c.in_ok-below.ensures,
    )
