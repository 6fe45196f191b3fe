use Rattle.std.proofs.Common.{◌≡◌, [], map, take, flat_map, get_or, refl, rules}
use Rattle.std.specs.List.{enumerate_from}
use Rattle.ref_reach.specs.Reached.{leads, kinds_at}
use Rattle.ref_reach.specs.Views.{place_of}
use Rattle.ref_reach.specs.inner.Following.{around_of, with_new}
use Rattle.ref_reach.proofs.Following.{own_more}
use Rattle.ref_reach.proofs.reaching.from_schemas.Goals as goal

pub loop-number-preserved : goal.loop-number-preserved
loop-number-preserved c =
    let a = around_of c.args.around in
    let own = c.args.schemas.now.places.items in
    let n = c.loop-number.number in
    let x = c.place-item.result in
    let is : x ≡ get_or own n x = search rules in
    let passed = map place_of (take n own) in
    own_more a c.lead.new.self (kinds_at a) place_of own n x 0 0 (search rules) is
    (c.in_ok-lead.ensures (with_new [] (flat_map (leads a) passed)) (flat_map (kinds_at a) (enumerate_from 0 passed)) 0 c.loop-number.invariant) refl
