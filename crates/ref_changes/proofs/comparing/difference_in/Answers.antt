use Rattle.std.proofs.Common.{◌≡◌, List, None, map, flat_map, option_map, sym, ap, ◌∙◌}
use Rattle.ref_changes.specs.Answers.{Texts}
use Rattle.ref_changes.specs.Changes.{Difference, first, site_differences, name_differences, all_names}
use Rattle.ref_changes.specs.Views.{change_of, site_of_place, texts_of, difference_of}
use Rattle.ref_changes.proofs.Telling.{past}
use Rattle.ref_changes.proofs.comparing.difference_in.Goals as goal

pub returns : goal.returns
returns c =
    let change = change_of c.args.change.now in
    let before = map site_of_place c.args.before.now in
    let after = map site_of_place c.args.after.now.places.now in
    let at_places = flat_map (site_differences change after) before in
    let of_name : Texts → List Difference = λ n. flat_map (name_differences change after n) before in
    let none : first at_places ≡ None = sym (ap (option_map difference_of) (sym c.in_default.is) ∙ c.in_ok-difference.ensures) in
    let names : map texts_of c.as_slice.result.now ≡ all_names change before after = ap (map texts_of) c.as_slice.ensures.value ∙ c.in_ok-all.ensures.value in
    past c.dynamic_difference.result at_places (flat_map of_name (all_names change before after)) (flat_map of_name (map texts_of c.as_slice.result.now)) none (ap (flat_map of_name) names) c.dynamic_difference.ensures
