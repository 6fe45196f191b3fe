use Rattle.std.proofs.Common.{◌≡◌, Some, codes, sym, subst, rules}
use Rattle.std.specs.Prelude.{IfOk, option_and_then}
use Rattle.serde_json.specs.Find.{get}
use Rattle.serde_json.specs.View.{view}
use Rattle.ref_findings.specs.Findings.{value_problem}
use Rattle.ref_findings.specs.inner.Meanings.{IsMaybe}
use Rattle.ref_findings.specs.inner.Seen.{site_of, known_in}
use Rattle.ref_findings.proofs.list.add_reference.Goals as goal

pub returns : goal.returns
returns c = λ fs zip.
    let k = known_in c.args.known.now in
    let s = site_of c.args.site.now in
    let value = get (codes "$ref") s.1.value in
    let there : value ≡ Some (view c.in-Some.value.now) = search rules in
    c.add.ensures (option_and_then (value_problem k s) value)
    (subst (λ o. IfOk c.of_value-problem.result (IsMaybe (option_and_then (value_problem k s) o))) (sym there) c.of_value-problem.ensures.value) fs zip
