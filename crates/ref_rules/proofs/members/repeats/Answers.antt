use Rattle.std.proofs.Common.{◌∙◌, ◌++◌, ap, sym, map}
use Rattle.ref_rules.specs.Members.{repeat_at}
use Rattle.ref_rules.specs.Views.{member_of}
use Rattle.ref_rules.proofs.Lists.{joined_step}
use Rattle.ref_rules.proofs.members.repeats.Goals as goal

pub loop-number-preserved : goal.loop-number-preserved
loop-number-preserved c =
    let l = c.loop-number in
    let s = c.index-members-number.result in
    let all = map member_of c.args.members.now in
    c.in_ok-push_repeat.ensures all c.in_ok-table.ensures ∙ ap (λ es. es ++ repeat_at all (l.number, member_of s)) l.invariant
    ∙ sym (joined_step (repeat_at all) member_of c.args.members.now l.number s c.loop-number-test.true c.index-members-number.is)
