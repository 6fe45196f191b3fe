use Rattle.std.proofs.Common.{◌≡◌, ◌≤◌, ◌<◌, ◌+◌, ◌-◌, ◌^◌, length, arith}
use Rattle.ref_positions.proofs.Json.{none_read, one_more_read, through_all, through_many}
use Rattle.ref_positions.proofs.places.Places.pass_tokens.Goals as goal

pub loop-number-init : goal.loop-number-init
loop-number-init c = none_read _ _ _ _ c.requires.reader c.requires.walk

pub returns-in_default : goal.returns-in_default
returns-in_default c =
    let few : c.loop-number.number ≤ length c.args.text.now = omega arith in
    record { through = through_all _ _ _ _ c.loop-number.number c.in_default.ensures.value.0 few c.loop-number.invariant }

pub loop-number-preserved : goal.loop-number-preserved
loop-number-preserved c =
    let low : c.loop-number.number < 2 ^ 64 - 1 = omega arith in
    one_more_read _ _ _ _ _ _ c.loop-number.number _ c.offset-offset.result low c.in-Some.ensures.value c.in_ok-pass_token.ensures.passes c.loop-number.invariant

pub returns : goal.returns
returns c =
    let many : c.loop-number.number ≡ length c.args.text.now + 1 = omega arith in
    record { through = through_many _ _ _ _ c.loop-number.number many c.loop-number.invariant }
