use Rattle.std.proofs.Common.{◌≡◌, ℕ, ◌+◌, true, take, get_or, ap, arith, subst}
use Rattle.std.specs.List.{prefix_len, before_first}
use Rattle.std.specs.Char.{is_ascii_digit}
use Rattle.ref_uri.specs.Characters.{is_encoded, is_userinfo_character}
use Rattle.ref_uri.specs.Authority.{is_port_part}
use Rattle.ref_uri.specs.Components.{ends_authority}
use Rattle.ref_uri.specs.inner.Scans.{ends_authority_at}
use Rattle.ref_uri.proofs.HostLemmas.{rest_is, port_run, port_within, port_encoded, port_accepted}
use Rattle.ref_uri.proofs.authority.port_len.Goals as goal

colon : (c : goal.After-digits_len) → get_or c.args.text.now 0 0 ≡ 58
colon c = omega arith

run_is : (c : goal.After-digits_len) → port_run c.args.text.now ≡ 1 + c.digits_len.result
run_is c = omega (arith, c.digits_len.ensures.value, ap (prefix_len is_ascii_digit) (rest_is c.args.text.now))

pub overflow_add-result : goal.overflow_add-result
overflow_add-result c = omega (arith, run_is c, port_within c.args.text.now (colon c))

pub returns-in-58-clause-within : goal.returns-in-58-clause-within
returns-in-58-clause-within c = omega (arith, run_is c, port_within c.args.text.now (colon c))

pub returns-in-58-clause-encoded : goal.returns-in-58-clause-encoded
returns-in-58-clause-encoded c =
    subst (λ (n : ℕ). is_encoded is_userinfo_character (take n c.args.text.now) ≡ true) (run_is c) (port_encoded c.args.text.now (colon c))

pub returns-in-58-clause-accepted : goal.returns-in-58-clause-accepted
returns-in-58-clause-accepted c =
    subst (λ (n : ℕ). ends_authority_at c.args.text.now n ≡ is_port_part (before_first ends_authority c.args.text.now)) (run_is c) (port_accepted c.args.text.now (colon c))
