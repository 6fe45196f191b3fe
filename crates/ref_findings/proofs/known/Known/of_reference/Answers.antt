use Rattle.std.proofs.Common.{refl, subst}
use Rattle.std.specs.Prelude.{IfOk}
use Rattle.ref_uri.specs.Targets.{target}
use Rattle.ref_findings.specs.Findings.{by_target}
use Rattle.ref_findings.specs.inner.Meanings.{IsMaybe}
use Rattle.ref_findings.specs.inner.Seen.{site_of, known_in}
use Rattle.ref_findings.proofs.known.Known.of_reference.Goals as goal

pub returns-in-Err : goal.returns-in-Err
returns-in-Err c =
    let base = c.base.result.now.value in
    let reference = c.args.reference.now in
    let by = by_target (known_in c.args.self.now) (site_of c.args.site.now) reference in
    subst (λ b. IfOk c.refused.result (IsMaybe (by (target b reference)))) c.base.ensures.value (c.refused.ensures (target base reference) by c.in-Err.ensures (λ refusal. refl))
