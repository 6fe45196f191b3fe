use Rattle.std.proofs.Common.{◌∙◌, ◌++◌, ap, sym}
use Rattle.ref_rules.specs.Members.{entry_of}
use Rattle.ref_rules.specs.Views.{member_of}
use Rattle.ref_rules.proofs.Lists.{joined_step}
use Rattle.ref_rules.proofs.members.entries_in.Goals as goal

pub loop-number-preserved : goal.loop-number-preserved
loop-number-preserved c =
    let l = c.loop-number in
    let s = c.index-members-number.result in
    c.in_ok-push_member.ensures ∙ ap (λ es. es ++ entry_of (l.number, member_of s)) l.invariant
    ∙ sym (joined_step entry_of member_of c.args.members.now l.number s c.loop-number-test.true c.index-members-number.is)
