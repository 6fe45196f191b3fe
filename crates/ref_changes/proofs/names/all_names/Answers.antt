use Rattle.std.proofs.Common.{[], map}
use Rattle.ref_changes.specs.Changes.{site_names}
use Rattle.ref_changes.specs.Views.{change_of, site_of_place, texts_of}
use Rattle.ref_changes.proofs.Adding.{each_more}
use Rattle.ref_changes.proofs.names.all_names.Goals as goal

pub loop-place-preserved : goal.loop-place-preserved
loop-place-preserved c =
    let l = c.loop-place in
    each_more (site_names (change_of c.args.change.now) (map site_of_place c.args.after.now.places.now)) site_of_place []
    (map texts_of c.add_site.new.all.items) (map texts_of l.all.items)
    c.args.before.now l.place-index c.place-item.result c.loop-place-test.true c.place-item.is l.invariant c.in_ok-add_site.ensures
