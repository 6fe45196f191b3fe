use Rattle.std.proofs.Common.{◌≡◌, ◌∙◌, ap, subst, rules}
use Rattle.ref_uri.specs.Errors.{IsFaultOf}
use Rattle.ref_uri.specs.declared.error.UriFault.TheVariants as uri_fault
use Rattle.ref_findings.specs.Findings.{InvalidUri}
use Rattle.ref_findings.proofs.problem.refused.Goals as goal

pub returns-in-Invalid : goal.returns-in-Invalid
returns-in-Invalid c = λ meaning by is each.
    let same : c.args.fault ≡ uri_fault.Invalid c.in-Invalid.error = search rules in
    let why : IsFaultOf meaning (uri_fault.Invalid c.in-Invalid.error) = subst (λ f. IsFaultOf meaning f) same is in
    (InvalidUri why.0, ap by why.1 ∙ each why.0, why.2)
