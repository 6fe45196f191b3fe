use Rattle.std.proofs.Common.{◌≡◌, ◌∙◌, ◌++◌, ap, sym, subst, reverse, IfOk, arith}
use Rattle.ref_findings.specs.Bearers.{name_entries}
use Rattle.ref_findings.specs.inner.Seen.{site_of}
use Rattle.ref_findings.proofs.Lists.{joined_step, joined_end}
use Rattle.ref_findings.proofs.bearers.names_of.Goals as goal

pub loop-number-preserved : goal.loop-number-preserved
loop-number-preserved c =
    let l = c.loop-number in
    let s = c.index-sites-number.result in
    c.in_ok-push_names.ensures ∙ ap (λ es. es ++ name_entries (l.number, site_of s)) l.invariant
    ∙ sym (joined_step name_entries site_of c.args.sites.now l.number s c.loop-number-test.true c.index-sites-number.is)

pub returns : goal.returns
returns c =
    let l = c.loop-number in
    record {
      value = subst (λ es. IfOk c.table_of.result (λ table. table ≡ reverse es)) (l.invariant ∙ joined_end name_entries site_of c.args.sites.now l.number (omega arith)) c.table_of.ensures;
    }
