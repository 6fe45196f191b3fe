use Rattle.std.proofs.Common.{[], map, get_or}
use Rattle.std.proofs.lemmas.List.{get_or_default}
use Rattle.ref_changes.specs.Changes.{keyword_names}
use Rattle.ref_changes.specs.Views.{change_of, site_of_place, texts_of}
use Rattle.ref_changes.proofs.Adding.{each_more}
use Rattle.ref_changes.proofs.names.add_place.Goals as goal

pub loop-keyword-preserved : goal.loop-keyword-preserved
loop-keyword-preserved c =
    let l = c.loop-keyword in
    let items = c.reference_keywords-keyword-items.result.now in
    let keyword = get_or items l.keyword-index (record { ref_ptr = (0, 0); now = [] }) in
    let within = c.loop-keyword-test.true in
    each_more (keyword_names (change_of c.args.change.now) (site_of_place c.args.before.now) (site_of_place c.args.after.now)) (λ k. k.now) (map texts_of c.args.all.now.items)
    (map texts_of c.add_keyword.new.all.items) (map texts_of l.all.items) items l.keyword-index keyword within (get_or_default items l.keyword-index _ keyword within) l.invariant c.in_ok-add_keyword.ensures
