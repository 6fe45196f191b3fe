use Rattle.std.proofs.Common.{◌≡◌, true, false, sym, subst, refl, rules}
use Rattle.ref_findings.specs.Findings.{LeadsNowhere}
use Rattle.ref_findings.specs.inner.Meanings.{IsMaybe, is_unretrievable}
use Rattle.ref_findings.proofs.Saying.{says_missing, says_nowhere}
use Rattle.ref_findings.proofs.problem.unresolvable_problem.Goals as goal

pub returns-then-is_unretrievable : goal.returns-then-is_unretrievable
returns-then-is_unretrievable c = λ fault says.
    let so : is_unretrievable c.args.error ≡ true = search rules in
    subst (λ o. IsMaybe o c.missing.result) (sym (says_missing c.args.uri.value c.args.reference.now c.args.error fault so says)) c.missing.ensures

pub returns : goal.returns
returns c = λ fault says.
    let other : is_unretrievable c.args.error ≡ false = search rules in
    (LeadsNowhere c.args.uri.value fault, says_nowhere c.args.uri.value c.args.reference.now c.args.error fault other says, (refl, says))
