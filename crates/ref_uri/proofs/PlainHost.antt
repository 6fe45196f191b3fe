-- A host in normal form, by its characters.
use Rattle.std.proofs.Common.{◌≡◌, ◌≢◌, ℕ, true, false, List, [], ◌∷◌, ◌++◌, length, take, drop, eqb, append-nil, refl, ap, ◌∙◌, arith}
use Rattle.std.specs.List.{list_all, list_any, position_or_len}
use Rattle.std.specs.Char.{to_ascii_lowercase}
use Rattle.std.proofs.lemmas.Bool.{and_parts}
use Rattle.std.proofs.lemmas.Bool.Decides.{nat_tests}
use Rattle.ref_uri.specs.Authority.{host_len}
use Rattle.ref_uri.specs.Normal.{normal_authority, normal_host, normal_port_part}
use Rattle.ref_uri.specs.inner.Written.{is_plain_in_host}
use Rattle.ref_uri.proofs.NormalLemmas.{normal_character, normal_none}

no_percent : (c : ℕ) → is_plain_in_host c ≡ true → c ≢ 37
no_percent c h = grind (arith, nat_tests)

no_colon : (c : ℕ) → is_plain_in_host c ≡ true → eqb c 58 ≡ false
no_colon c h = grind (arith, nat_tests)

no_bracket : (c : ℕ) → is_plain_in_host c ≡ true → eqb c 91 ≡ false
no_bracket c h = grind (arith, nat_tests)

lower : (c : ℕ) → is_plain_in_host c ≡ true → to_ascii_lowercase c ≡ c
lower c h = grind (arith, nat_tests)

-- it is in lower case
plain_is_normal : (text : List ℕ) → list_all is_plain_in_host text ≡ true → normal_host text ≡ text
plain_is_normal [] h = normal_none to_ascii_lowercase
plain_is_normal (c ∷ rest) h =
    let both = and_parts (is_plain_in_host c) (list_all is_plain_in_host rest) h in
    normal_character to_ascii_lowercase c rest (no_percent c both.0)
    ∙ ap (λ d. d ∷ normal_host rest) (lower c both.0) ∙ ap (λ t. c ∷ t) (plain_is_normal rest both.1)

no_port : (text : List ℕ) → list_all is_plain_in_host text ≡ true → position_or_len (λ c. eqb c 58) text ≡ length text
no_port [] h = refl
no_port (c ∷ rest) h =
    let both = and_parts (is_plain_in_host c) (list_all is_plain_in_host rest) h in
    rw (no_colon c both.0) (omega (arith, no_port rest both.1))

-- it is the whole text
all_is_host : (text : List ℕ) → list_all is_plain_in_host text ≡ true → host_len text ≡ length text
all_is_host [] h = refl
all_is_host (c ∷ rest) h =
    let both = and_parts (is_plain_in_host c) (list_all is_plain_in_host rest) h in
    rw (no_bracket c both.0) (no_port (c ∷ rest) h)

no_at : (text : List ℕ) → list_all is_plain_in_host text ≡ true → list_any (λ c. eqb c 64) text ≡ false
no_at [] h = refl
no_at (c ∷ rest) h =
    let both = and_parts (is_plain_in_host c) (list_all is_plain_in_host rest) h in
    rw (apart c both.0) (no_at rest both.1)
  where
    apart : (c : ℕ) → is_plain_in_host c ≡ true → eqb c 64 ≡ false
    apart c h = grind (arith, nat_tests)

take_all : (text : List ℕ) → take (length text) text ≡ text
take_all [] = refl
take_all (c ∷ rest) = ap (λ t. c ∷ t) (take_all rest)

drop_all : (text : List ℕ) → drop (length text) text ≡ []
drop_all [] = refl
drop_all (c ∷ rest) = drop_all rest

-- so it stands for itself
pub plain_host : (text : List ℕ) → list_all is_plain_in_host text ≡ true → normal_host (take (host_len text) text) ++ normal_port_part (drop (host_len text) text) ≡ text
plain_host text h =
    rw (all_is_host text h, take_all text, drop_all text, plain_is_normal text h) (append-nil text)

-- also as an authority
pub plain_authority : (text : List ℕ) → list_all is_plain_in_host text ≡ true → normal_authority text ≡ text
unfolding normal_authority
plain_authority text h = rw (no_at text h) (plain_host text h)
