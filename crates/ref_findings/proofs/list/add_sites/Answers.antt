use Rattle.std.proofs.Common.{ℕ, ◌++◌, ◌∙◌, flat_map, map, take, ap, sym, subst, append_assoc}
use Rattle.std.specs.List.{AllZip, enumerate_from}
use Rattle.ref_findings.specs.Bearers.{Site}
use Rattle.ref_findings.specs.Findings.{findings_at}
use Rattle.ref_findings.specs.Entries.{IsFindingOf}
use Rattle.ref_findings.specs.inner.Seen.{site_of, known_in}
use Rattle.ref_findings.proofs.Lists.{joined_step}
use Rattle.ref_findings.proofs.list.add_sites.Goals as goal

pub loop-number-preserved : goal.loop-number-preserved
loop-number-preserved c = λ fs zip.
    let l = c.loop-number in
    let s = c.index-sites-number.result in
    let f = λ (e : ℕ × Site). findings_at (known_in c.args.known.now) e.0 e.1 in
    let before = flat_map f (enumerate_from 0 (map site_of (take l.number c.args.sites.now))) in
    subst (AllZip IsFindingOf c.add_site.new.list.items)
    (append_assoc fs before (f (l.number, site_of s)) ∙ ap (λ y. fs ++ y) (sym (joined_step f site_of c.args.sites.now l.number s c.loop-number-test.true c.index-sites-number.is)))
    (c.in_ok-add_site.ensures (fs ++ before) (l.invariant fs zip))
