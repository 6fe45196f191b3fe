use Rattle.std.proofs.Common.{◌≡◌, ◌∙◌, ℕ, ◌+◌, ◌-◌, ◌≤◌, true, false, not, take, drop, length, List, Option, Some, None, sym, arith, subst}
use Rattle.std.specs.List.{before_first}
use Rattle.std.specs.Option.{IfNone}
use Rattle.std.proofs.lemmas.List.{take_rest}
use Rattle.std.proofs.lemmas.List.Sums.{prefix_len-le-length}
use Rattle.ref_uri.specs.Characters.{is_encoded, is_userinfo_character}
use Rattle.ref_uri.specs.Authority.{is_port_part, is_address_and_bracket, is_host_and_port}
use Rattle.ref_uri.specs.Components.{ends_authority}
use Rattle.ref_uri.specs.inner.Scans.{ends_authority_at}
use Rattle.ref_uri.proofs.HostLemmas.{brackets_accepted, brackets_inside, brackets_none, port_inside, port_after}
use Rattle.ref_uri.proofs.authority.brackets_and_port_len.Goals as goal

pub returns-in_err-brackets-clause-none : goal.returns-in_err-brackets-clause-none
returns-in_err-brackets-clause-none c =
    let text = c.args.text.now in
    let rest : List ℕ = take (length text - 1) (drop 1 text) in
    let is : rest ≡ drop 1 text = take_rest text 1 in
    let found : (n : ℕ) → n ≤ length rest → is_address_and_bracket (take n rest) ≡ true → None ≡ Some n = c.in_err-brackets.ensures.found in
    let none : is_host_and_port (before_first ends_authority text) ≡ false =
    brackets_none text c.requires (subst (λ (l : List ℕ). (n : ℕ) → n ≤ length l → is_address_and_bracket (take n l) ≡ true → ⊥) is (λ n le h. (let e = found n le h in cc))) in
    subst (λ (o : Option ℕ). IfNone o (is_host_and_port (before_first ends_authority text) ≡ false)) (sym c.from_residual.ensures) none

-- the address and its `]` after the `[`
within : (c : goal.After-port_len) → c.in_ok-brackets.field-0 ≤ length (drop 1 c.args.text.now)
within c = subst (λ (l : List ℕ). c.in_ok-brackets.field-0 ≤ length l) (take_rest c.args.text.now 1) c.in_ok-brackets.ensures.within

sound : (c : goal.After-port_len) → is_address_and_bracket (take c.in_ok-brackets.field-0 (drop 1 c.args.text.now)) ≡ true
sound c = subst (λ (l : List ℕ). is_address_and_bracket (take c.in_ok-brackets.field-0 l) ≡ true) (take_rest c.args.text.now 1) c.in_ok-brackets.ensures.sound

pub returns-clause-inside : goal.returns-clause-inside
returns-clause-inside c =
    let text = c.args.text.now in
    let brackets = 1 + c.in_ok-brackets.field-0 in
    port_inside text brackets c.port_len.result (brackets_inside text c.in_ok-brackets.field-0 c.requires (within c) (sound c))
    (subst (λ (l : List ℕ). c.port_len.result ≤ length l) (take_rest text brackets) c.port_len.ensures.within)
    (subst (λ (l : List ℕ). is_encoded is_userinfo_character (take c.port_len.result l) ≡ true) (take_rest text brackets) c.port_len.ensures.encoded)

pub returns-clause-accepted : goal.returns-clause-accepted
returns-clause-accepted c =
    let text = c.args.text.now in
    let brackets = 1 + c.in_ok-brackets.field-0 in
    let inner = brackets_inside text c.in_ok-brackets.field-0 c.requires (within c) (sound c) in
    port_after text brackets c.port_len.result (omega (arith, inner, prefix_len-le-length (λ x. not (ends_authority x)) text)) inner
    (subst (λ (l : List ℕ). ends_authority_at l c.port_len.result ≡ is_port_part (before_first ends_authority l)) (take_rest text brackets) c.port_len.ensures.accepted)
    ∙ brackets_accepted text c.in_ok-brackets.field-0 c.requires (within c) (sound c)
