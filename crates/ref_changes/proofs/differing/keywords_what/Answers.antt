use Rattle.std.proofs.Common.{[], sym, ap, ◌∙◌, get_or, flat_map, option_map}
use Rattle.std.proofs.lemmas.List.{get_or_default}
use Rattle.ref_changes.specs.Changes.{keyword_whats, first}
use Rattle.ref_changes.specs.Views.{change_of, site_of_place, what_of}
use Rattle.ref_changes.proofs.Firsts.{none_more, found_here}
use Rattle.ref_changes.proofs.differing.keywords_what.Goals as goal

pub returns-in-Some : goal.returns-in-Some
returns-in-Some c =
    let f = keyword_whats (change_of c.args.change.now) (site_of_place c.args.before.now) (site_of_place c.args.after.now) in
    let items = c.reference_keywords-keyword-items.result.now in
    let at = c.loop-keyword.keyword-index in
    let keyword = get_or items at (record { ref_ptr = (0, 0); now = [] }) in
    let within = c.loop-keyword-test.true in
    let here = ap (option_map what_of) (sym c.in-Some.is) ∙ c.in_ok-what.ensures in
    found_here f (λ k. k.now) items at keyword (what_of c.in-Some.what) within (get_or_default items at _ keyword within) c.loop-keyword.invariant here
    ∙ ap (λ ks. first (flat_map f ks)) c.reference_keywords-keyword-items.ensures.value

pub loop-keyword-preserved : goal.loop-keyword-preserved
loop-keyword-preserved c =
    let f = keyword_whats (change_of c.args.change.now) (site_of_place c.args.before.now) (site_of_place c.args.after.now) in
    let items = c.reference_keywords-keyword-items.result.now in
    let at = c.loop-keyword.keyword-index in
    let keyword = get_or items at (record { ref_ptr = (0, 0); now = [] }) in
    let within = c.loop-keyword-test.true in
    let here = ap (option_map what_of) (sym c.in_default.is) ∙ c.in_ok-what.ensures in
    none_more f (λ k. k.now) items at keyword within (get_or_default items at _ keyword within) c.loop-keyword.invariant here
