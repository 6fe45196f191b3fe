use Rattle.std.proofs.Common.{◌≡◌, Some, None, ap, sym, subst, rules}
use Rattle.std.specs.Prelude.{IfOk}
use Rattle.ref_definitions.specs.Places.{base_within, identifier_of}
use Rattle.ref_findings.specs.Unmet.{refused_problem}
use Rattle.ref_findings.specs.inner.Meanings.{IsMaybe}
use Rattle.ref_findings.specs.inner.Seen.{place_of}
use Rattle.ref_findings.proofs.unready.of_identifier.Goals as goal

pub returns-in-Some : goal.returns-in-Some
returns-in-Some c =
    let p = c.args.place.now in
    let there : identifier_of (place_of p) ≡ Some c.in-Some.id.now = search rules in
    subst (λ b. IfOk c.of_identifier_text.result (IsMaybe (refused_problem (Some b)))) (sym (ap (base_within p.outer.value) there)) c.of_identifier_text.ensures

pub returns-in-None : goal.returns-in-None
returns-in-None c =
    let p = c.args.place.now in
    let none : identifier_of (place_of p) ≡ None = search rules in
    ap (λ id. refused_problem (Some (base_within p.outer.value id))) none
