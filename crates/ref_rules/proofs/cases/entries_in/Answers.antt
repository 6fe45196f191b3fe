use Rattle.std.proofs.Common.{◌∙◌, ◌++◌, ap, sym}
use Rattle.ref_rules.specs.Cases.{entry_of}
use Rattle.ref_rules.specs.Views.{name_of}
use Rattle.ref_rules.proofs.Lists.{joined_step}
use Rattle.ref_rules.proofs.cases.entries_in.Goals as goal

pub loop-number-preserved : goal.loop-number-preserved
loop-number-preserved c =
    let l = c.loop-number in
    let s = c.index-there-number.result in
    c.in_ok-push_text.ensures ∙ ap (λ es. es ++ entry_of (l.number, name_of s)) l.invariant
    ∙ sym (joined_step entry_of name_of c.args.there.now l.number s c.loop-number-test.true c.index-there-number.is)
