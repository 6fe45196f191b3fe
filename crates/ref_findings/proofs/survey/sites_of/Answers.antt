use Rattle.std.proofs.Common.{◌≡◌, ◌∙◌, ◌++◌, map, ap, sym, rules}
use Rattle.ref_findings.specs.Bearers.{numbered_sites}
use Rattle.ref_findings.specs.inner.Seen.{place_of, site_of, seen_survey}
use Rattle.ref_findings.proofs.Lists.{joined_step}
use Rattle.ref_findings.proofs.survey.sites_of.Goals as goal

pub loop-number-preserved : goal.loop-number-preserved
loop-number-preserved c =
    let l = c.loop-number in
    let s = c.index-surveys-number.result in
    let lent : c.as_slice.result.now ≡ s.places.items = search rules in
    c.in_ok-push_sites.ensures ∙ ap (λ ps. map site_of l.sites.items ++ numbered_sites (l.number, map place_of ps)) lent
    ∙ ap (λ es. es ++ numbered_sites (l.number, (seen_survey s).places)) l.invariant
    ∙ sym (joined_step numbered_sites (λ t. (seen_survey t).places) c.args.surveys.now l.number s c.loop-number-test.true c.index-surveys-number.is)
