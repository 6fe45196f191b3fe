use Rattle.std.proofs.Common.{◌≡◌, Some, codes, sym, subst, rules}
use Rattle.std.specs.Prelude.{IfOk, option_and_then}
use Rattle.ref_draft.specs.Schema.{text_under}
use Rattle.ref_findings.specs.Findings.{schema_problem}
use Rattle.ref_findings.specs.inner.Meanings.{IsMaybe}
use Rattle.ref_findings.specs.inner.Seen.{site_of, known_in}
use Rattle.ref_findings.proofs.list.add_schema.Goals as goal

pub returns : goal.returns
returns c = λ fs zip.
    let k = known_in c.args.known.now in
    let s = site_of c.args.site.now in
    let text = text_under (codes "$schema") s.1.value in
    let there : text ≡ Some c.in-Some.text.now = search rules in
    c.add.ensures (option_and_then (schema_problem k) text)
    (subst (λ o. IfOk c.of_schema-problem.result (IsMaybe (option_and_then (schema_problem k) o))) (sym there) c.of_schema-problem.ensures.value) fs zip
