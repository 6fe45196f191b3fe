use Rattle.std.proofs.Common.{◌≡◌, Some, sym, subst, rules}
use Rattle.std.specs.Prelude.{IfOk, option_and_then}
use Rattle.ref_findings.specs.Bearers.{source_uri}
use Rattle.ref_findings.specs.Findings.{uri_problem}
use Rattle.ref_findings.specs.inner.Meanings.{IsMaybe}
use Rattle.ref_findings.specs.inner.Seen.{site_of, known_in}
use Rattle.ref_findings.proofs.list.add_source_uri.Goals as goal

pub returns : goal.returns
returns c = λ fs zip.
    let k = known_in c.args.known.now in
    let n = c.args.number in
    let s = site_of c.args.site.now in
    let there : source_uri s.1 ≡ Some c.in-Some.uri.now.value = search rules in
    c.add.ensures (option_and_then (uri_problem k n) (source_uri s.1))
    (subst (λ o. IfOk c.of_uri-problem.result (IsMaybe (option_and_then (uri_problem k n) o))) (sym there) c.of_uri-problem.ensures.value) fs zip
