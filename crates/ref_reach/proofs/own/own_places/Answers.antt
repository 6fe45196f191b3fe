use Rattle.std.proofs.Common.{◌≡◌, true, map, rules}
use Rattle.ref_reach.specs.Views.{place_of}
use Rattle.ref_reach.proofs.Growing.{own_step}
use Rattle.ref_reach.proofs.own.own_places.Goals as goal

pub loop-number-preserved : goal.loop-number-preserved
loop-number-preserved c =
    let so : c.in_ok-push_below.field-0 ≡ true = search rules in
    own_step (map place_of c.args.roots.items) (map place_of c.loop-number.places.items) (map place_of c.push_below.new.places.items) c.loop-number.number c.in_ok-push_below.field-0 so c.in_ok-push_below.ensures c.loop-number.invariant
