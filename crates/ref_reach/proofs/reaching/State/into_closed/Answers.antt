use Rattle.std.proofs.Common.{◌≡◌, ◌+◌, ◌++◌, true, false, rules}
use Rattle.ref_reach.specs.inner.Following.{around_of, followed, wrong_in, count_in}
use Rattle.ref_reach.proofs.Following.{closed_step, closed_end}
use Rattle.ref_reach.proofs.reaching.State.into_closed.Goals as goal

pub loop-number-preserved : goal.loop-number-preserved
loop-number-preserved c =
    let so : c.in_ok-visit.field-0 ≡ true = search rules in
    λ list count says.
    let a = around_of c.args.around in
    let n = c.loop-number.number in
    closed_step a c.visit.new.self n list count c.in_ok-visit.field-0 so
    (c.in_ok-visit.ensures (followed a n) (list ++ wrong_in a n) (count + count_in a n) (c.loop-number.invariant list count says))

pub returns-then-not-branch : goal.returns-then-not-branch
returns-then-not-branch c =
    let so : c.in_ok-visit.field-0 ≡ false = search rules in
    λ list count says.
    let a = around_of c.args.around in
    let n = c.loop-number.number in
    closed_end a c.visit.new.self c.into_reached.result n list count c.in_ok-visit.field-0 so
    (c.in_ok-visit.ensures (followed a n) (list ++ wrong_in a n) (count + count_in a n) (c.loop-number.invariant list count says))
    c.into_reached.ensures.places c.into_reached.ensures.findings c.into_reached.ensures.references
