use Rattle.std.proofs.Common.{◌≡◌, ◌+◌, [], map, take, flat_map, length, get_or, rules}
use Rattle.ref_descriptions.specs.References.{references}
use Rattle.ref_reach.specs.Reached.{leads, findings_at, findings_from, count_references}
use Rattle.ref_reach.specs.Views.{place_of}
use Rattle.ref_reach.specs.inner.Following.{around_of, with_new}
use Rattle.ref_reach.proofs.Following.{own_more, count_own}
use Rattle.ref_reach.proofs.reaching.from_own.Goals as goal

pub loop-number-preserved : goal.loop-number-preserved
loop-number-preserved c =
    let a = around_of c.args.around in
    let own = c.args.around.documents.now.own.items in
    let n = c.loop-number.number in
    let x = c.place-item.result in
    let is : x ≡ get_or own n x = search rules in
    let passed = map place_of (take n own) in
    own_more a c.follow.new.self (findings_at a) place_of own n x
    (count_references passed + length (references (place_of x).reading (place_of x).value)) (count_references (map place_of (take (n + 1) own))) (search rules) is
    (c.in_ok-follow.ensures (with_new [] (flat_map (leads a) passed)) (findings_from a 0 passed) (count_references passed) c.loop-number.invariant)
    (count_own place_of own n x (search rules) is)
