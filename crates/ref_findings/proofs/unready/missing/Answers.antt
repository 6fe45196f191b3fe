use Rattle.std.proofs.Common.{◌≡◌, ◌∙◌, true, false, if◌then◌else◌, Some, None, refl, ap, sym, rules}
use Rattle.ref_findings.specs.Findings.{MissingDocument}
use Rattle.ref_findings.specs.inner.Nulled.{is_met}
use Rattle.ref_findings.proofs.unready.missing.Goals as goal

pub returns-then-knows : goal.returns-then-knows
returns-then-knows c = λ uris met.
    let uri = c.args.uri.value in
    let same : c.deref.result.now ≡ uri = search rules in
    let known : c.knows.result ≡ true = search rules in
    ap (λ b. if b then None else Some (MissingDocument uri)) (ap (is_met uris) (sym same) ∙ sym (c.knows.ensures.value uris met) ∙ known)

pub returns : goal.returns
returns c = λ uris met.
    let uri = c.args.uri.value in
    let same : c.deref.result.now ≡ uri = search rules in
    let unknown : c.knows.result ≡ false = search rules in
    (MissingDocument uri, ap (λ b. if b then None else Some (MissingDocument uri)) (ap (is_met uris) (sym same) ∙ sym (c.knows.ensures.value uris met) ∙ unknown), refl)
