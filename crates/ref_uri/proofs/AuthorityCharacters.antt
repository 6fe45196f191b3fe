-- The characters of an authority.
use Rattle.std.proofs.Common.{◌≡◌, ℕ, suc, ◌+◌, ◌<◌, ◌≤◌, Bool, true, false, ◌&&◌, ◌||◌, List, [], ◌∷◌, ◌++◌, length, take, drop, get_or, eqb, ltb, refl, sym, ap, ◌∙◌, subst, arith, inl, inr}
use Rattle.std.specs.Char.{is_ascii_hexdigit, is_ascii_digit}
use Rattle.std.specs.List.{list_any, list_all, position_or_len}
use Rattle.std.proofs.lemmas.Bool.{and_parts, and_from, or_cases, eqb-true, ltb-true, cases_lt, le-ltb}
use Rattle.std.proofs.lemmas.Bool.Decides.{nat_tests}
use Rattle.std.proofs.lemmas.List.{take-append-drop, length-drop, drop_all}
use Rattle.std.proofs.lemmas.List.Folds.{list_all-append}
use Rattle.std.proofs.Math.Seq.{drop-cons}
use Rattle.ref_uri.specs.Characters.{is_encoded, is_name_character, is_userinfo_character}
use Rattle.ref_uri.specs.Authority.{is_authority, is_host, is_port_part, is_bracketed, is_address_and_bracket, is_address, is_address_character, is_future_address, is_version_and_address, host_len, is_host_and_port}
use Rattle.ref_uri.proofs.EncodedLemmas.{passes_at_first, any_is_found}
use Rattle.ref_uri.proofs.AuthorityLemmas.{is_authority-userinfo}

-- the characters of a host and a port
abbrev pub is_host_character : ℕ → Bool
is_host_character c = is_userinfo_character c || (eqb c 37 || (eqb c 91 || eqb c 93))

-- each character is one that a host or a port may hold
abbrev pub all_host : List ℕ → Bool
all_host text = list_all is_host_character text

-- the characters of an authority
abbrev pub is_authority_character : ℕ → Bool
is_authority_character c = is_host_character c || eqb c 64

-- each character is one that an authority may hold
abbrev pub all_authority : List ℕ → Bool
all_authority text = list_all is_authority_character text

-- what passes a narrower test passes a wider one
pub list_all-wider : (p q : ℕ → Bool) → ((c : ℕ) → p c ≡ true → q c ≡ true) → (text : List ℕ) → list_all p text ≡ true → list_all q text ≡ true
list_all-wider p q wider [] h = refl
list_all-wider p q wider (c ∷ text) h =
    let both = and_parts (p c) (list_all p text) h in
    and_from (q c) (list_all q text) (wider c both.0) (list_all-wider p q wider text both.1)

pub list_all-joined : (p : ℕ → Bool) (a b : List ℕ) → list_all p a ≡ true → list_all p b ≡ true → list_all p (a ++ b) ≡ true
list_all-joined p a b h k = list_all-append p a b ∙ and_from (list_all p a) (list_all p b) h k

-- a text of two parts
from_parts : (p : ℕ → Bool) (n : ℕ) (text : List ℕ) → list_all p (take n text) ≡ true → list_all p (drop n text) ≡ true → list_all p text ≡ true
from_parts p n text h k = subst (λ (t : List ℕ). list_all p t ≡ true) (take-append-drop n text) (list_all-joined p (take n text) (drop n text) h k)

-- a text of two parts with a character between
from_around : (p : ℕ → Bool) (n : ℕ) (text : List ℕ) → n < length text → list_all p (take n text) ≡ true → p (get_or text n 0) ≡ true → list_all p (drop (n + 1) text) ≡ true → list_all p text ≡ true
from_around p n text lt h c k =
    let e : n + 1 ≡ suc n = omega arith in
    from_parts p n text h (rw (drop-cons text n 0 lt) (and_from (p (get_or text n 0)) (list_all p (drop (suc n) text)) c (subst (λ (m : ℕ). list_all p (drop m text) ≡ true) e k)))

encoded_characters : (allowed p : ℕ → Bool) → ((c : ℕ) → allowed c ≡ true → p c ≡ true) → p 37 ≡ true → (text : List ℕ) → is_encoded allowed text ≡ true → list_all p text ≡ true
encoded_characters allowed p inside percent_too text h =
    list_all-wider (λ c. allowed c || eqb c 37) p (λ c k. elim (or_cases (allowed c) (eqb c 37) k) [ inl a ↦ inside c a | inr percent ↦ ap p (eqb-true c 37 percent) ∙ percent_too ]) text (and_parts _ _ h).0

pub address_characters : (text : List ℕ) → is_address text ≡ true → list_all is_userinfo_character text ≡ true
address_characters text h = list_all-wider is_address_character is_userinfo_character (λ c k. grind (arith, nat_tests)) text (and_parts (ltb 0 (length text)) (list_all is_address_character text) h).1

pub version_characters : (text : List ℕ) → is_version_and_address text ≡ true → list_all is_userinfo_character text ≡ true
version_characters text h =
    let dot = position_or_len (λ c. eqb c 46) text in
    let last = and_parts (ltb 0 (length (take dot text)) && ltb 0 (length (drop (dot + 1) text)) && list_all is_ascii_hexdigit (take dot text)) (list_all is_userinfo_character (drop (dot + 1) text)) h in
    let third = and_parts (ltb 0 (length (take dot text)) && ltb 0 (length (drop (dot + 1) text))) (list_all is_ascii_hexdigit (take dot text)) last.0 in
    let second = and_parts (ltb 0 (length (take dot text))) (ltb 0 (length (drop (dot + 1) text))) third.0 in
    let more : 0 < length (drop (dot + 1) text) = ltb-true 0 (length (drop (dot + 1) text)) second.1 in
    let within : dot < length text = omega (arith, more, length-drop (dot + 1) text) in
    from_around is_userinfo_character dot text within
    (list_all-wider is_ascii_hexdigit is_userinfo_character (λ c k. grind (arith, nat_tests)) (take dot text) third.1)
    (ap is_userinfo_character (eqb-true (get_or text dot 0) 46 (passes_at_first (λ c. eqb c 46) text within)))
    last.1

pub future_characters : (text : List ℕ) → is_future_address text ≡ true → list_all is_userinfo_character text ≡ true
future_characters [] h = refl
future_characters (v ∷ rest) h =
    let both = and_parts (eqb v 118 || eqb v 86) (is_version_and_address rest) h in
    let letter : (eqb v 118 || eqb v 86) ≡ true = both.0 in
    let first : is_userinfo_character v ≡ true = grind (arith, nat_tests) in
    and_from (is_userinfo_character v) (list_all is_userinfo_character rest) first (version_characters rest both.1)

-- the characters between brackets
pub either_characters : (text : List ℕ) → (is_address text || is_future_address text) ≡ true → list_all is_userinfo_character text ≡ true
either_characters text h = elim (or_cases (is_address text) (is_future_address text) h) [ inl a ↦ address_characters text a | inr f ↦ future_characters text f ]

-- the characters of an address and its brackets
abbrev pub is_literal_character : ℕ → Bool
is_literal_character c = is_userinfo_character c || (eqb c 91 || eqb c 93)

abbrev all_literal : List ℕ → Bool
all_literal text = list_all is_literal_character text

pub bracket_literals : (text : List ℕ) → is_address_and_bracket text ≡ true → all_literal text ≡ true
bracket_literals text h =
    let end = position_or_len (λ c. eqb c 93) text in
    let both = and_parts (eqb (end + 1) (length text)) (is_address (take end text) || is_future_address (take end text)) h in
    let length_is : end + 1 ≡ length text = eqb-true (end + 1) (length text) both.0 in
    let within : end < length text = omega arith in
    from_around is_literal_character end text within
    (list_all-wider is_userinfo_character is_literal_character (λ c k. rw k refl) (take end text) (either_characters (take end text) both.1))
    (ap is_literal_character (eqb-true (get_or text end 0) 93 (passes_at_first (λ c. eqb c 93) text within)))
    (nothing_left (end + 1) text length_is)
  where
    nothing_left : (n : ℕ) (text : List ℕ) → n ≡ length text → all_literal (drop n text) ≡ true
    nothing_left n text e = ap all_literal (drop_all n text (omega arith))

literal_is_host : (text : List ℕ) → all_literal text ≡ true → all_host text ≡ true
literal_is_host text h = list_all-wider is_literal_character is_host_character (λ c k. grind (arith, nat_tests)) text h

pub bracket_characters : (text : List ℕ) → is_address_and_bracket text ≡ true → all_host text ≡ true
bracket_characters text h = literal_is_host text (bracket_literals text h)

pub literal_characters : (text : List ℕ) → is_bracketed text ≡ true → all_literal text ≡ true
literal_characters [] k = refl
literal_characters (c ∷ rest) k =
    let both = and_parts (eqb c 91) (is_address_and_bracket rest) k in
    and_from (is_literal_character c) (all_literal rest) (ap is_literal_character (eqb-true c 91 both.0)) (bracket_literals rest both.1)

host_characters : (text : List ℕ) → is_host text ≡ true → all_host text ≡ true
host_characters text h =
    elim (or_cases (is_bracketed text) (is_encoded is_name_character text) h) [
      | inl bracketed ↦ literal_is_host text (literal_characters text bracketed)
      | inr name ↦ encoded_characters is_name_character is_host_character (λ c k. grind (arith, nat_tests)) refl text name
    ]

port_characters : (text : List ℕ) → is_port_part text ≡ true → all_host text ≡ true
port_characters [] h = refl
port_characters (c ∷ digits) h =
    let both = and_parts (eqb c 58) (list_all is_ascii_digit digits) h in
    and_from (is_host_character c) (all_host digits) (ap is_host_character (eqb-true c 58 both.0)) (list_all-wider is_ascii_digit is_host_character (λ d k. grind (arith, nat_tests)) digits both.1)

pub host_and_port_characters : (text : List ℕ) → is_host_and_port text ≡ true → all_host text ≡ true
host_and_port_characters text h =
    let both = and_parts (is_host (take (host_len text) text)) (is_port_part (drop (host_len text) text)) h in
    from_parts is_host_character (host_len text) text (host_characters (take (host_len text) text) both.0) (port_characters (drop (host_len text) text) both.1)

all_wider : (text : List ℕ) → all_host text ≡ true → all_authority text ≡ true
all_wider text h = list_all-wider is_host_character is_authority_character (λ c k. rw k refl) text h

pub authority_characters : (text : List ℕ) → is_authority text ≡ true → all_authority text ≡ true
authority_characters text h =
    elim (cases_lt (position_or_len (λ x. eqb x 64) text) (length text)) [ inl lt ↦ with_userinfo lt | inr le ↦ without le ]
  where
    with_userinfo : position_or_len (λ x. eqb x 64) text < length text → all_authority text ≡ true
    with_userinfo lt =
        let at = position_or_len (λ x. eqb x 64) text in
        let rest = drop (at + 1) text in
        let all = sym (is_authority-userinfo text lt) ∙ h in
        let both = and_parts (is_encoded is_userinfo_character (take at text)) (is_host_and_port rest) all in
        from_around is_authority_character at text lt
        (encoded_characters is_userinfo_character is_authority_character (λ c k. grind (arith, nat_tests)) refl (take at text) both.0)
        (ap is_authority_character (eqb-true (get_or text at 0) 64 (passes_at_first (λ x. eqb x 64) text lt)))
        (all_wider rest (host_and_port_characters rest both.1))

    without : length text ≤ position_or_len (λ x. eqb x 64) text → all_authority text ≡ true
    without le =
        let absent : list_any (λ x. eqb x 64) text ≡ false = any_is_found (λ x. eqb x 64) text ∙ le-ltb _ _ le in
        all_wider text (host_and_port_characters text (rw absent at h))
