use Rattle.std.proofs.Common.{◌≡◌, ◌∙◌, ℕ, ◌+◌, ◌-◌, ◌<◌, true, take, drop, get_or, length, List, Some, sym, ap, arith, subst}
use Rattle.std.specs.List.{prefix_len}
use Rattle.std.proofs.lemmas.List.{take_rest}
use Rattle.std.specs.Char.{is_ascii_hexdigit}
use Rattle.ref_uri.specs.Characters.{is_userinfo_character}
use Rattle.ref_uri.specs.Authority.{is_version_and_address}
use Rattle.ref_uri.proofs.BracketLemmas.{version_sound, version_found, VersionFound}
use Rattle.ref_uri.proofs.authority.version_and_address_len.Goals as goal
use Rattle.ref_uri.proofs.authority.version_and_address_len.Goals.{then-version-eq0-via-then-version-eq0, then-version-eq0-via-else-version-eq0+then-version-text, then-version-eq0-via-else-version-eq0+else-version-text+then-text-version-ne46}

-- the run of characters, as a slice has it
rest_at : (t : List ℕ) (k a : ℕ) → a ≡ prefix_len is_userinfo_character (take (length t - k) (drop k t)) → a ≡ prefix_len is_userinfo_character (drop k t)
rest_at t k a is = is ∙ ap (prefix_len is_userinfo_character) (take_rest t k)

found_at : (t : List ℕ) (v n : ℕ) → v ≡ prefix_len is_ascii_hexdigit t → n < length t → is_version_and_address (take n t) ≡ true → get_or t n 0 ≡ 93 → VersionFound t n v
found_at t v n is lt h bracket = subst (λ (k : ℕ). VersionFound t n k) (sym is) (version_found t n lt h bracket)

pub returns-then-version-eq0-clause-found : goal.returns-then-version-eq0-clause-found
returns-then-version-eq0-clause-found c = λ n lt h bracket.
    let found = found_at c.args.text.now c.hex_digits_len-version.result n c.hex_digits_len-version.ensures.value lt h bracket in
    elim c.then-version-eq0.branch [
      | then-version-eq0-via-then-version-eq0 w ↦ absurd (omega arith)
      | then-version-eq0-via-else-version-eq0+then-version-text w ↦ absurd (omega arith)
      | then-version-eq0-via-else-version-eq0+else-version-text+then-text-version-ne46 w ↦ absurd (omega arith)
    ]

pub returns-then-address-eq0-clause-found : goal.returns-then-address-eq0-clause-found
returns-then-address-eq0-clause-found c = λ n lt h bracket.
    let found = found_at c.args.text.now c.hex_digits_len-version.result n c.hex_digits_len-version.ensures.value lt h bracket in
    absurd (omega (arith, rest_at c.args.text.now (c.hex_digits_len-version.result + 1) c.future_address_len-address.result c.future_address_len-address.ensures.value))

pub returns-clause-sound : goal.returns-clause-sound
returns-clause-sound c =
    version_sound c.args.text.now c.hex_digits_len-version.result c.future_address_len-address.result c.hex_digits_len-version.ensures.value (rest_at c.args.text.now (c.hex_digits_len-version.result + 1) c.future_address_len-address.result c.future_address_len-address.ensures.value) (omega arith) (omega arith) c.if-text-version-ne46.false (omega arith)

pub returns-clause-found : goal.returns-clause-found
returns-clause-found c = λ n lt h bracket.
    let found = found_at c.args.text.now c.hex_digits_len-version.result n c.hex_digits_len-version.ensures.value lt h bracket in
    ap (λ (k : ℕ). Some k) (omega (arith, rest_at c.args.text.now (c.hex_digits_len-version.result + 1) c.future_address_len-address.result c.future_address_len-address.ensures.value))
