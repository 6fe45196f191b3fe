use Rattle.std.proofs.Common.{option_map, false, sym, ap, ◌∙◌}
use Rattle.ref_reach.specs.Views.{place_of}
use Rattle.ref_changes.proofs.Firsts.{first_mapped}
use Rattle.ref_comparison.specs.Further.{What, Difference, whats_among}
use Rattle.ref_comparison.specs.Views.{sides_of, what_of}
use Rattle.ref_comparison.specs.inner.Grouped.{places_in}
use Rattle.ref_comparison.proofs.further.place_difference.Goals as goal

pub returns-in-Some : goal.returns-in-Some
returns-in-Some c =
    let p = place_of c.args.place.now in
    let differs : What → Difference = λ w. record { place = p; what = w } in
    ap (option_map differs) (ap (option_map what_of) (sym c.in-Some.is) ∙ c.in_ok-what.ensures)
    ∙ sym (first_mapped differs (whats_among (sides_of c.args.sides.now) p (places_in c.args.after.now) false))

pub returns-in-None : goal.returns-in-None
returns-in-None c =
    let p = place_of c.args.place.now in
    let differs : What → Difference = λ w. record { place = p; what = w } in
    ap (option_map differs) (ap (option_map what_of) (sym c.in-None.is) ∙ c.in_ok-what.ensures)
    ∙ sym (first_mapped differs (whats_among (sides_of c.args.sides.now) p (places_in c.args.after.now) false))
