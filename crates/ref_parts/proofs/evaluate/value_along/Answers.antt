use Rattle.std.proofs.Common.{◌≢◌, ◌∷◌, option_and_then, All, ap, sym, subst, ◌∙◌, arith, rules}
use Rattle.std.proofs.lemmas.List.Elements.{All-tail}
use Rattle.std.proofs.lemmas.Str.Pattern.{split_parts}
use Rattle.serde_json.specs.View.{view}
use Rattle.ref_parts.specs.Pointer.{tokens, value_along}
use Rattle.ref_parts.proofs.EvaluateLaws.{value_along_turn, value_along_last, All-back}
use Rattle.ref_parts.proofs.evaluate.value_along.Goals as goal

pub returns-in-None-clause-value : goal.returns-in-None-clause-value
returns-in-None-clause-value c =
    let l = c.tokens in
    let cut = rw c.in-Some.is at (split_parts 47 l.rest.now c.split_once.result c.split_once.ensures.cases (omega arith)) in
    let turn = value_along_turn (view l.target.now) l.rest.now c.in-Some.token.now c.in-Some.more.now cut.0 cut.1 in
    let gone = rw c.in-None.is at c.in_ok-value.ensures.value in
    ap (option_and_then (λ e. value_along e (tokens c.in-Some.more.now))) gone ∙ sym turn ∙ l.invariant.0

pub tokens-preserved : goal.tokens-preserved
tokens-preserved c =
    let l = c.tokens in
    let cut = rw c.in-Some.is at (split_parts 47 l.rest.now c.split_once.result c.split_once.ensures.cases (omega arith)) in
    let turn = value_along_turn (view l.target.now) l.rest.now c.in-Some.token.now c.in-Some.more.now cut.0 cut.1 in
    let found = rw c.in-Some-2.is at c.in_ok-value.ensures.value in
    let keeps = λ (plain : All (λ b. b ≢ 126) c.args.text.now).
    All-tail (λ b. b ≢ 126) 47 c.in-Some.more.now (All-back (λ b. b ≢ 126) c.in-Some.token.now (47 ∷ c.in-Some.more.now) (subst (All (λ b. b ≢ 126)) cut.0 (l.invariant.1 plain))) in
    (ap (option_and_then (λ e. value_along e (tokens c.in-Some.more.now))) found ∙ sym turn ∙ l.invariant.0, keeps, search rules)

pub returns-clause-value : goal.returns-clause-value
returns-clause-value c =
    let l = c.tokens in
    let none = rw c.in_default.is at (split_parts 47 l.rest.now c.split_once.result c.split_once.ensures.cases (omega arith)) in
    let same = sym l.invariant.0 ∙ value_along_last (view l.target.now) l.rest.now none in
    rw same c.step-2.ensures.value
