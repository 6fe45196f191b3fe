-- Components in normal form hold what they may.
use Rattle.std.proofs.Common.{◌≡◌, ℕ, ◌+◌, Bool, true, false, cond, ◌&&◌, ◌||◌, List, [], ◌∷◌, length, take, drop, map, eqb, ltb, refl, sym, ap, ◌∙◌, arith, inl, inr, Option, Some, None, option_map}
use Rattle.std.specs.List.{list_all, position_or_len, before_first, after_first}
use Rattle.std.specs.Char.{is_ascii_hexdigit, is_ascii_alphabetic, to_ascii_lowercase}
use Rattle.std.proofs.lemmas.Bool.{and_parts, and_from, or_cases, false≢true}
use Rattle.std.proofs.lemmas.Bool.Decides.{nat_tests}
use Rattle.std.proofs.lemmas.List.{take-map, drop-map, length-map}
use Rattle.std.proofs.lemmas.List.Sums.{AllPass-from_list_all}
use Rattle.ref_uri.specs.Characters.{is_encoded, is_unreserved, is_scheme_character, is_name_character, is_userinfo_character, is_path_character, is_query_character}
use Rattle.ref_uri.specs.Authority.{is_authority, userinfo, host, port_part, is_host, is_bracketed, is_address_and_bracket, is_address, is_address_character, is_future_address, is_version_and_address, is_port_part}
use Rattle.ref_uri.specs.Components.{is_scheme, is_path, is_query, if_there}
use Rattle.ref_uri.specs.Normal.{normal_text, normal_host, normal_port_part, normal_authority}
use Rattle.ref_uri.proofs.NormalLemmas.{normal_plain}
use Rattle.ref_uri.proofs.WrittenLemmas.{keeps_as_is, keeps_lower, normal_is_encoded}
use Rattle.ref_uri.proofs.AuthorityCharacters.{is_literal_character, literal_characters}
use Rattle.ref_uri.proofs.AuthorityText.{AreParts, text_of_parts, authority_of_parts, parts_of_authority}
use Rattle.ref_uri.proofs.EncodedLemmas.{or_true}

abbrev lower : List ℕ → List ℕ
lower text = map to_ascii_lowercase text

-- what each character passes, in lower case
all-lower : (p q : ℕ → Bool) → ((c : ℕ) → p c ≡ true → q (to_ascii_lowercase c) ≡ true) → (text : List ℕ) → list_all p text ≡ true → list_all q (lower text) ≡ true
all-lower p q keeps [] h = refl
all-lower p q keeps (c ∷ text) h =
    let both = and_parts (p c) (list_all p text) h in
    and_from (q (to_ascii_lowercase c)) (list_all q (lower text)) (keeps c both.0) (all-lower p q keeps text both.1)

-- the first of a character that is no letter
position-lower : (k : ℕ) → ((c : ℕ) → eqb (to_ascii_lowercase c) k ≡ eqb c k) → (text : List ℕ) → position_or_len (λ c. eqb c k) (lower text) ≡ position_or_len (λ c. eqb c k) text
position-lower k same [] = refl
position-lower k same (c ∷ text) = rw (same c, position-lower k same text) refl

before-lower : (k : ℕ) → ((c : ℕ) → eqb (to_ascii_lowercase c) k ≡ eqb c k) → (text : List ℕ) → before_first (λ c. eqb c k) (lower text) ≡ lower (before_first (λ c. eqb c k) text)
before-lower k same text = ap (λ n. take n (lower text)) (position-lower k same text) ∙ take-map to_ascii_lowercase (position_or_len (λ c. eqb c k) text) text

after-lower : (k : ℕ) → ((c : ℕ) → eqb (to_ascii_lowercase c) k ≡ eqb c k) → (text : List ℕ) → after_first (λ c. eqb c k) (lower text) ≡ lower (after_first (λ c. eqb c k) text)
after-lower k same text = ap (λ n. drop (n + 1) (lower text)) (position-lower k same text) ∙ drop-map to_ascii_lowercase (position_or_len (λ c. eqb c k) text + 1) text

same_bracket : (c : ℕ) → eqb (to_ascii_lowercase c) 93 ≡ eqb c 93
same_bracket c = grind (arith, nat_tests)

same_dot : (c : ℕ) → eqb (to_ascii_lowercase c) 46 ≡ eqb c 46
same_dot c = grind (arith, nat_tests)

lower_address : (text : List ℕ) → is_address text ≡ true → is_address (lower text) ≡ true
lower_address text h =
    let both = and_parts (ltb 0 (length text)) (list_all is_address_character text) h in
    and_from (ltb 0 (length (lower text))) (list_all is_address_character (lower text)) (ap (ltb 0) (length-map text to_ascii_lowercase) ∙ both.0) (all-lower is_address_character is_address_character (λ c k. grind (arith, nat_tests)) text both.1)

lower_version : (text : List ℕ) → is_version_and_address text ≡ true → is_version_and_address (lower text) ≡ true
lower_version text h =
    let b = before_first (λ c. eqb c 46) text in
    let a = after_first (λ c. eqb c 46) text in
    let last = and_parts (ltb 0 (length b) && ltb 0 (length a) && list_all is_ascii_hexdigit b) (list_all is_userinfo_character a) h in
    let third = and_parts (ltb 0 (length b) && ltb 0 (length a)) (list_all is_ascii_hexdigit b) last.0 in
    let second = and_parts (ltb 0 (length b)) (ltb 0 (length a)) third.0 in
    rw (before-lower 46 same_dot text, after-lower 46 same_dot text)
    (and_from _ _ (and_from _ _ (and_from _ _ (ap (ltb 0) (length-map b to_ascii_lowercase) ∙ second.0) (ap (ltb 0) (length-map a to_ascii_lowercase) ∙ second.1)) (all-lower is_ascii_hexdigit is_ascii_hexdigit (λ c k. grind (arith, nat_tests)) b third.1)) (all-lower is_userinfo_character is_userinfo_character (λ c k. grind (arith, nat_tests)) a last.1))

lower_future : (text : List ℕ) → is_future_address text ≡ true → is_future_address (lower text) ≡ true
lower_future [] h = h
lower_future (v ∷ rest) h =
    let both = and_parts (eqb v 118 || eqb v 86) (is_version_and_address rest) h in
    and_from _ _ (letter v both.0) (lower_version rest both.1)
  where
    letter : (v : ℕ) → (eqb v 118 || eqb v 86) ≡ true → (eqb (to_ascii_lowercase v) 118 || eqb (to_ascii_lowercase v) 86) ≡ true
    letter v k = grind (arith, nat_tests)

lower_bracket : (text : List ℕ) → is_address_and_bracket text ≡ true → is_address_and_bracket (lower text) ≡ true
lower_bracket text h =
    let b = before_first (λ c. eqb c 93) text in
    let both = and_parts (eqb (position_or_len (λ c. eqb c 93) text + 1) (length text)) (is_address b || is_future_address b) h in
    rw (before-lower 93 same_bracket text, position-lower 93 same_bracket text, length-map text to_ascii_lowercase)
    (and_from _ _ both.0 (elim (or_cases (is_address b) (is_future_address b) both.1) [ inl a ↦ rw (lower_address b a) refl | inr f ↦ rw (lower_future b f) (or_true (is_address (lower b))) ]))

lower_bracketed : (text : List ℕ) → is_bracketed text ≡ true → is_bracketed (lower text) ≡ true
lower_bracketed [] h = h
lower_bracketed (c ∷ rest) h =
    let both = and_parts (eqb c 91) (is_address_and_bracket rest) h in
    and_from _ _ (opens c both.0) (lower_bracket rest both.1)
  where
    opens : (c : ℕ) → eqb c 91 ≡ true → eqb (to_ascii_lowercase c) 91 ≡ true
    opens c k = grind (arith, nat_tests)

-- a text in brackets holds no `%`
pub normal_literal : (text : List ℕ) → is_bracketed text ≡ true → normal_host text ≡ lower text
normal_literal text h =
    normal_plain to_ascii_lowercase text (λ i lt e. false≢true (no_percent ∙ ap is_literal_character (sym e) ∙ AllPass-from_list_all is_literal_character text (literal_characters text h) i 0 lt))
  where
    no_percent : false ≡ is_literal_character 37
    no_percent = refl

pub normal_host_is_host : (text : List ℕ) → is_host text ≡ true → is_host (normal_host text) ≡ true
normal_host_is_host text h =
    elim (or_cases (is_bracketed text) (is_encoded is_name_character text) h) [
      | inl literal ↦ rw (ap is_bracketed (normal_literal text literal) ∙ lower_bracketed text literal) refl
      | inr name ↦ rw (normal_is_encoded to_ascii_lowercase keeps_lower is_name_character is_name_character lower_name unreserved_name text name) (or_true (is_bracketed (normal_host text)))
    ]
  where
    lower_name : (c : ℕ) → is_name_character c ≡ true → is_name_character (to_ascii_lowercase c) ≡ true
    lower_name c k = grind (arith, nat_tests)

    unreserved_name : (c : ℕ) → is_unreserved c ≡ true → is_name_character c ≡ true
    unreserved_name c k = grind (arith, nat_tests)

-- the parts of an authority in normal form hold what they may
pub normal_parts : (u : Option (List ℕ)) (h p : List ℕ) → AreParts u h p → AreParts (option_map normal_text u) (normal_host h) (normal_port_part p)
normal_parts u h p are = record { userinfo_test = userinfo_test u are.userinfo_test; host_test = normal_host_is_host h are.host_test; port_test = port_test (eqb (length p) 1) }
  where
    userinfo_test : (u : Option (List ℕ)) → if_there (is_encoded is_userinfo_character) u ≡ true → if_there (is_encoded is_userinfo_character) (option_map normal_text u) ≡ true
    userinfo_test None k = refl
    userinfo_test (Some x) k = normal_is_encoded (λ c. c) keeps_as_is is_userinfo_character is_userinfo_character (λ c j. j) (λ c j. grind (arith, nat_tests)) x k

    port_test : (b : Bool) → is_port_part (cond b [] p) ≡ true
    port_test true = refl
    port_test false = are.port_test

-- the parts of an authority in normal form are those in normal form
pub normal_authority-parts : (text : List ℕ) → normal_authority text ≡ text_of_parts (option_map normal_text (userinfo text)) (normal_host (host text)) (normal_port_part (port_part text))
unfolding normal_authority
normal_authority-parts text = refl

pub normal_is_authority : (text : List ℕ) → is_authority text ≡ true → is_authority (normal_authority text) ≡ true
normal_is_authority text h =
    ap is_authority (normal_authority-parts text)
    ∙ authority_of_parts (option_map normal_text (userinfo text)) (normal_host (host text)) (normal_port_part (port_part text)) (normal_parts (userinfo text) (host text) (port_part text) (parts_of_authority text h))

pub lower_is_scheme : (text : List ℕ) → is_scheme text ≡ true → is_scheme (lower text) ≡ true
lower_is_scheme [] h = h
lower_is_scheme (c ∷ rest) h =
    let both = and_parts (is_ascii_alphabetic c) (list_all is_scheme_character rest) h in
    and_from _ _ (letter c both.0) (all-lower is_scheme_character is_scheme_character (λ d k. grind (arith, nat_tests)) rest both.1)
  where
    letter : (c : ℕ) → is_ascii_alphabetic c ≡ true → is_ascii_alphabetic (to_ascii_lowercase c) ≡ true
    letter c k = grind (arith, nat_tests)

pub normal_is_path : (text : List ℕ) → is_path text ≡ true → is_path (normal_text text) ≡ true
normal_is_path text h = normal_is_encoded (λ c. c) keeps_as_is is_path_character is_path_character (λ c k. k) (λ c k. grind (arith, nat_tests)) text h

pub normal_is_query : (text : List ℕ) → is_query text ≡ true → is_query (normal_text text) ≡ true
normal_is_query text h = normal_is_encoded (λ c. c) keeps_as_is is_query_character is_query_character (λ c k. k) (λ c k. grind (arith, nat_tests)) text h
