use Rattle.std.proofs.Common.{◌≡◌, ◌∙◌, ℕ, List, Option, Result, Some, Ok, Err, refl, ap, sym, subst, rules}
use Rattle.std.specs.Prelude.{IfOk}
use Rattle.ref_uri.specs.Targets.{target, Refusal}
use Rattle.ref_definitions.specs.Wants.{reference_at}
use Rattle.ref_findings.specs.Places.{nearest_base}
use Rattle.ref_findings.specs.Findings.{Problem}
use Rattle.ref_findings.specs.Unmet.{unmet_problem}
use Rattle.ref_findings.specs.inner.Meanings.{IsMaybe}
use Rattle.ref_findings.specs.inner.Nulled.{is_met}
use Rattle.ref_findings.specs.inner.Seen.{place_of}
use Rattle.ref_findings.proofs.unready.of_reference.Goals as goal

pub returns-in-Ok : goal.returns-in-Ok
returns-in-Ok c = λ uris met.
    let p = place_of c.args.place.now in
    let reference = c.in-Some.reference.now in
    let there : reference_at (nearest_base p) p.value ≡ Some (target (nearest_base p) reference) = search rules in
    let meant : target (nearest_base p) reference ≡ Ok c.in-Ok.uri.value = ap (λ b. target b reference) (sym c.base.ensures.value) ∙ c.in-Ok.ensures.value in
    subst (λ o. IsMaybe (unmet_problem (is_met uris) o) c.missing.result) (sym (there ∙ ap Some meant)) (c.missing.ensures uris met)

pub returns-in-Err : goal.returns-in-Err
returns-in-Err c = λ uris met.
    let p = place_of c.args.place.now in
    let reference = c.in-Some.reference.now in
    let there : reference_at (nearest_base p) p.value ≡ Some (target (nearest_base p) reference) = search rules in
    let by : Result (List ℕ) Refusal → Option Problem = λ meaning. unmet_problem (is_met uris) (Some meaning) in
    subst (λ o. IfOk c.refused.result (IsMaybe (unmet_problem (is_met uris) o))) (ap (λ b. Some (target b reference)) c.base.ensures.value ∙ sym there)
    (c.refused.ensures (target c.base.result.now.value reference) by c.in-Err.ensures.value (λ refusal. refl))
