use Rattle.std.proofs.Common.{map, option_map, sym, ap, ◌∙◌}
use Rattle.ref_reach.specs.Views.{place_of}
use Rattle.ref_comparison.specs.Further.{place_differences}
use Rattle.ref_comparison.specs.Views.{sides_of, difference_of}
use Rattle.ref_comparison.specs.inner.Grouped.{places_in}
use Rattle.ref_comparison.proofs.Telling.{in_first, in_second, in_third}
use Rattle.ref_comparison.proofs.further.difference_in.Goals as goal

pub returns-in-Some : goal.returns-in-Some
returns-in-Some c =
    let f = place_differences (sides_of c.args.sides.now) (places_in c.args.after.now) in
    in_first f (map place_of c.args.own.now) (map place_of c.args.described.now) (map place_of c.args.led.now) (difference_of c.in-Some.found)
    (ap (option_map difference_of) (sym c.in-Some.is) ∙ c.in_ok-found.ensures)

pub returns-in-Some-2 : goal.returns-in-Some-2
returns-in-Some-2 c =
    let f = place_differences (sides_of c.args.sides.now) (places_in c.args.after.now) in
    in_second f (map place_of c.args.own.now) (map place_of c.args.described.now) (map place_of c.args.led.now) (difference_of c.in-Some-2.found)
    (ap (option_map difference_of) (sym c.in_default.is) ∙ c.in_ok-found.ensures)
    (ap (option_map difference_of) (sym c.in-Some-2.is) ∙ c.in_ok-found-2.ensures)

pub returns : goal.returns
returns c =
    let f = place_differences (sides_of c.args.sides.now) (places_in c.args.after.now) in
    in_third c.places_difference-3.result f (map place_of c.args.own.now) (map place_of c.args.described.now) (map place_of c.args.led.now)
    (ap (option_map difference_of) (sym c.in_default.is) ∙ c.in_ok-found.ensures)
    (ap (option_map difference_of) (sym c.in_default-2.is) ∙ c.in_ok-found-2.ensures)
    c.places_difference-3.ensures
