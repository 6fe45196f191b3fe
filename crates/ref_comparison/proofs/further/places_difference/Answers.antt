use Rattle.std.proofs.Common.{option_map, sym, ap, ◌∙◌}
use Rattle.ref_reach.specs.Views.{place_of}
use Rattle.ref_changes.proofs.Firsts.{none_more, found_here}
use Rattle.ref_comparison.specs.Further.{place_differences}
use Rattle.ref_comparison.specs.Views.{sides_of, difference_of}
use Rattle.ref_comparison.specs.inner.Grouped.{places_in}
use Rattle.ref_comparison.proofs.further.places_difference.Goals as goal

pub returns-in-Some : goal.returns-in-Some
returns-in-Some c =
    let f = place_differences (sides_of c.args.sides.now) (places_in c.args.after.now) in
    let here = ap (option_map difference_of) (sym c.in-Some.is) ∙ c.in_ok-difference.ensures in
    found_here f place_of c.args.places.now c.loop-place.place-index c.place-item.result (difference_of c.in-Some.difference) c.loop-place-test.true c.place-item.is c.loop-place.invariant here

pub loop-place-preserved : goal.loop-place-preserved
loop-place-preserved c =
    let f = place_differences (sides_of c.args.sides.now) (places_in c.args.after.now) in
    let here = ap (option_map difference_of) (sym c.in_default.is) ∙ c.in_ok-difference.ensures in
    none_more f place_of c.args.places.now c.loop-place.place-index c.place-item.result c.loop-place-test.true c.place-item.is c.loop-place.invariant here
