use Rattle.std.proofs.Common.{◌≡◌, ◌∙◌, ◌++◌, ap, sym, subst, reverse, IfOk, arith}
use Rattle.ref_findings.specs.Guessed.{entries_referred}
use Rattle.ref_findings.specs.inner.Seen.{site_of}
use Rattle.ref_findings.proofs.Lists.{joined_step, joined_end}
use Rattle.ref_findings.proofs.guessed.referred_of.Goals as goal

pub loop-number-preserved : goal.loop-number-preserved
loop-number-preserved c =
    let l = c.loop-number in
    let s = c.index-sites-number.result in
    let f = entries_referred c.args.draft in
    c.in_ok-push_referred.ensures ∙ ap (λ es. es ++ f (l.number, site_of s)) l.invariant
    ∙ sym (joined_step f site_of c.args.sites.now l.number s c.loop-number-test.true c.index-sites-number.is)

pub returns : goal.returns
returns c =
    let l = c.loop-number in
    subst (λ es. IfOk c.table_of.result (λ table. table ≡ reverse es)) (l.invariant ∙ joined_end (entries_referred c.args.draft) site_of c.args.sites.now l.number (omega arith)) c.table_of.ensures
