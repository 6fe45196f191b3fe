use Rattle.std.proofs.Common.{◌≡◌, None, option_and_then, true, sym, ap, ◌∙◌}
use Rattle.serde_json.specs.Find.{at}
use Rattle.serde_json.specs.View.{view}
use Rattle.ref_parts.specs.Pointer.{unescape, parse_index}
use Rattle.ref_parts.proofs.EvaluateLaws.{step_in_array}
use Rattle.ref_parts.proofs.evaluate.step.Goals as goal

pub returns-in_default-clause-value : goal.returns-in_default-clause-value
returns-in_default-clause-value c =
    let array : c.is_array.result ≡ true = c.if-not-is_array.false in
    let step = step_in_array (view c.args.target.now) (unescape c.args.token.now) (sym c.is_array.ensures ∙ array) in
    let key = ap parse_index (c.as_str-2.ensures.value ∙ c.in_ok-key.ensures.value) in
    let gone : parse_index (unescape c.args.token.now) ≡ None = sym key ∙ sym c.parse_index.ensures.value ∙ c.in_default.is in
    sym (step ∙ ap (option_and_then (λ i. at i (view c.args.target.now))) gone)
