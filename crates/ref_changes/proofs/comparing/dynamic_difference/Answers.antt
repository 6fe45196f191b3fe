use Rattle.std.proofs.Common.{List, map, option_map, sym, ap, ◌∙◌, [], flat_map, get_or}
use Rattle.std.proofs.lemmas.List.{get_or_default}
use Rattle.ref_changes.specs.Answers.{Texts}
use Rattle.ref_changes.specs.Changes.{Difference, name_differences}
use Rattle.ref_changes.specs.Views.{change_of, site_of_place, difference_of, texts_of}
use Rattle.ref_changes.proofs.Firsts.{none_more, found_here}
use Rattle.ref_changes.proofs.comparing.dynamic_difference.Goals as goal

pub returns-in-Some : goal.returns-in-Some
returns-in-Some c =
    let f : Texts → List Difference = λ n. flat_map (name_differences (change_of c.args.change.now) (map site_of_place c.args.after.now.places.now) n) (map site_of_place c.args.before.now) in
    let all = c.args.all.now in
    let at = c.loop-names.names-index in
    let names = get_or all at (record { before = record { ref_ptr = (0, 0); now = [] }; after = record { ref_ptr = (0, 0); now = [] } }) in
    let here = ap (option_map difference_of) (sym c.in-Some.is) ∙ c.in_ok-difference.ensures.value in
    found_here f texts_of all at names (difference_of c.in-Some.difference) c.loop-names-test.true (get_or_default all at _ names c.loop-names-test.true) c.loop-names.invariant here

pub loop-names-preserved : goal.loop-names-preserved
loop-names-preserved c =
    let f : Texts → List Difference = λ n. flat_map (name_differences (change_of c.args.change.now) (map site_of_place c.args.after.now.places.now) n) (map site_of_place c.args.before.now) in
    let all = c.args.all.now in
    let at = c.loop-names.names-index in
    let names = get_or all at (record { before = record { ref_ptr = (0, 0); now = [] }; after = record { ref_ptr = (0, 0); now = [] } }) in
    let here = ap (option_map difference_of) (sym c.in_default.is) ∙ c.in_ok-difference.ensures.value in
    none_more f texts_of all at names c.loop-names-test.true (get_or_default all at _ names c.loop-names-test.true) c.loop-names.invariant here
