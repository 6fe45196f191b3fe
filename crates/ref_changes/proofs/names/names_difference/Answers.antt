use Rattle.std.proofs.Common.{map, option_map, sym, ap, ◌∙◌}
use Rattle.ref_changes.specs.Changes.{name_differences}
use Rattle.ref_changes.specs.Views.{change_of, site_of_place, difference_of, texts_of}
use Rattle.ref_changes.proofs.Firsts.{none_more, found_here}
use Rattle.ref_changes.proofs.names.names_difference.Goals as goal

pub returns-in-Some : goal.returns-in-Some
returns-in-Some c =
    let f = name_differences (change_of c.args.change.now) (map site_of_place c.args.after.now.places.now) (texts_of c.args.names.now) in
    let here = ap (option_map difference_of) (sym c.in-Some.is) ∙ c.in_ok-difference.ensures in
    record { value = found_here f site_of_place c.args.before.now c.loop-place.place-index c.place-item.result (difference_of c.in-Some.difference) c.loop-place-test.true c.place-item.is c.loop-place.invariant here }

pub loop-place-preserved : goal.loop-place-preserved
loop-place-preserved c =
    let f = name_differences (change_of c.args.change.now) (map site_of_place c.args.after.now.places.now) (texts_of c.args.names.now) in
    let here = ap (option_map difference_of) (sym c.in_default.is) ∙ c.in_ok-difference.ensures in
    none_more f site_of_place c.args.before.now c.loop-place.place-index c.place-item.result c.loop-place-test.true c.place-item.is c.loop-place.invariant here
