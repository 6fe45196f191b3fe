use Rattle.std.proofs.Common.{◌∙◌, ◌++◌, ap, sym}
use Rattle.ref_rules.specs.Slips.{slips_at}
use Rattle.ref_rules.specs.Views.{place_of}
use Rattle.ref_rules.proofs.Lists.{joined_step}
use Rattle.ref_rules.proofs.list.slips.Goals as goal

pub loop-number-preserved : goal.loop-number-preserved
loop-number-preserved c =
    let l = c.loop-number in
    let s = c.index-places-number.result in
    c.in_ok-push_slips.ensures ∙ ap (λ es. es ++ slips_at (l.number, place_of s)) l.invariant
    ∙ sym (joined_step slips_at place_of c.args.places.now l.number s c.loop-number-test.true c.index-places-number.is)
