use Rattle.std.proofs.Common.{◌∙◌, ◌++◌, ap, sym, map}
use Rattle.ref_rules.specs.Cases.{alike_at}
use Rattle.ref_rules.specs.Views.{name_of}
use Rattle.ref_rules.proofs.Lists.{joined_step}
use Rattle.ref_rules.proofs.cases.all_alike.Goals as goal

pub loop-number-preserved : goal.loop-number-preserved
loop-number-preserved c =
    let l = c.loop-number in
    let s = c.index-wanted-number.result in
    let all = map name_of c.args.there.now in
    c.in_ok-push_alike.ensures all c.in_ok-table.ensures ∙ ap (λ es. es ++ alike_at all (l.number, name_of s)) l.invariant
    ∙ sym (joined_step (alike_at all) name_of c.args.wanted.now l.number s c.loop-number-test.true c.index-wanted-number.is)
