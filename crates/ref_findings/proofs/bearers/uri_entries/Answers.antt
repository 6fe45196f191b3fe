use Rattle.std.proofs.Common.{◌≡◌, ◌∙◌, ◌++◌, ap, sym, arith}
use Rattle.ref_findings.specs.Bearers.{uri_entries}
use Rattle.ref_findings.specs.inner.Seen.{site_of}
use Rattle.ref_findings.proofs.Lists.{joined_step, joined_end}
use Rattle.ref_findings.proofs.bearers.uri_entries.Goals as goal

pub loop-number-preserved : goal.loop-number-preserved
loop-number-preserved c =
    let l = c.loop-number in
    let s = c.index-sites-number.result in
    c.in_ok-push_uris.ensures ∙ ap (λ es. es ++ uri_entries (l.number, site_of s)) l.invariant
    ∙ sym (joined_step uri_entries site_of c.args.sites.now l.number s c.loop-number-test.true c.index-sites-number.is)

pub returns : goal.returns
returns c =
    let l = c.loop-number in
    l.invariant ∙ joined_end uri_entries site_of c.args.sites.now l.number (omega arith)
