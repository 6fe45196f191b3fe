-- The parts of an authority are those of the text that they make.
use Rattle.std.proofs.Common.{◌≡◌, ℕ, suc, ◌+◌, ◌<◌, Bool, true, false, not, ◌||◌, List, [], ◌∷◌, ◌++◌, length, take, drop, get_or, eqb, refl, sym, ap, ◌∙◌, subst, arith, inl, inr, Option, Some, None, codes, append_assoc, append-nil, length-append}
use Rattle.std.specs.List.{list_any, list_all, position_or_len, before_first, after_first}
use Rattle.std.specs.Char.{is_ascii_digit}
use Rattle.std.proofs.lemmas.Bool.{cases_Bool, and_parts, and_from, or_cases, eqb-true, false≢true, lt-ltb, le-ltb}
use Rattle.std.proofs.lemmas.Bool.Decides.{nat_tests}
use Rattle.std.proofs.lemmas.List.{take_at, drop_at}
use Rattle.std.proofs.lemmas.List.Folds.{list_all-append}
use Rattle.ref_uri.specs.Characters.{is_encoded, is_name_character, is_userinfo_character}
use Rattle.ref_uri.specs.Authority.{is_authority, userinfo, host, port_part, host_and_port, is_host_and_port, host_len, is_host, is_bracketed, is_address_and_bracket, is_address, is_future_address, is_port_part}
use Rattle.ref_uri.specs.Components.{framed_component, if_there}
use Rattle.ref_uri.proofs.EncodedLemmas.{any_is_found}
use Rattle.ref_uri.proofs.AuthorityCharacters.{is_literal_character, literal_characters, list_all-wider}
use Rattle.ref_uri.proofs.UniqueLemmas.{Starts, first_past, before_after, encoded_apart}
use Rattle.ref_uri.proofs.NormalLemmas.{drop_past}

-- The parts of an authority that hold what they may.
pub record AreParts (userinfo : Option (List ℕ)) (host port : List ℕ) : Type 0 where
  pub userinfo_test : if_there (is_encoded is_userinfo_character) userinfo ≡ true
  pub host_test : is_host host ≡ true
  pub port_test : is_port_part port ≡ true

abbrev pub text_of_parts : Option (List ℕ) → List ℕ → List ℕ → List ℕ
text_of_parts userinfo host port = framed_component [] userinfo (codes "@") ++ host ++ port

-- The parts of a text.
pub record Found (text : List ℕ) (u : Option (List ℕ)) (h p : List ℕ) : Type 0 where
  pub userinfo_is : userinfo text ≡ u
  pub host_is : host text ≡ h
  pub port_is : port_part text ≡ p

-- the first that passes, with more after it
position-front : (p : ℕ → Bool) (front rest : List ℕ) → position_or_len p front < length front → position_or_len p (front ++ rest) ≡ position_or_len p front
position-front p [] rest lt = absurd (omega arith)
position-front p (c ∷ front) rest lt =
    elim (cases_Bool (p c)) [
      | inl passes ↦ rw passes refl
      | inr other ↦
          let one : position_or_len p (c ∷ front) ≡ 1 + position_or_len p front = rw other refl in
          rw (other, position-front p front rest (omega arith)) refl
    ]

none_passes : (p : ℕ → Bool) (text : List ℕ) → list_all (λ c. not (p c)) text ≡ true → list_any p text ≡ false
none_passes p text all =
    let at = first_past p text [] all (inl refl) in
    any_is_found p text ∙ le-ltb (position_or_len p text) (length text) (omega (arith, at, ap (λ t. position_or_len p t) (append-nil text)))

-- how long the host is, with a port after it
host_len-bracketed : (rest port : List ℕ) → is_address_and_bracket rest ≡ true → host_len (91 ∷ (rest ++ port)) ≡ suc (length rest)
host_len-bracketed rest port h =
    let closes = eqb-true (position_or_len (λ c. eqb c 93) rest + 1) (length rest) (and_parts (eqb (position_or_len (λ c. eqb c 93) rest + 1) (length rest)) (is_address (before_first (λ c. eqb c 93) rest) || is_future_address (before_first (λ c. eqb c 93) rest)) h).0 in
    let same = position-front (λ c. eqb c 93) rest port (omega arith) in
    omega (arith, same, length-append rest port)

port_starts : (port : List ℕ) → is_port_part port ≡ true → Starts (λ c. eqb c 58) port
port_starts [] h = inl refl
port_starts (c ∷ digits) h = inr (and_parts (eqb c 58) (list_all is_ascii_digit digits) h).0

host_len-named : (name port : List ℕ) → is_encoded is_name_character name ≡ true → is_port_part port ≡ true → host_len (name ++ port) ≡ length name
host_len-named name port h k =
    rw (no_bracket name port h k) (first_past (λ c. eqb c 58) name port (encoded_apart is_name_character (λ c. eqb c 58) (λ c j. grind (arith, nat_tests)) name h) (port_starts port k))
  where
    other : (c : ℕ) → (is_name_character c || eqb c 37) ≡ true → eqb c 91 ≡ false
    other c j = grind (arith, nat_tests)

    no_bracket : (name port : List ℕ) → is_encoded is_name_character name ≡ true → is_port_part port ≡ true → eqb (get_or (name ++ port) 0 0) 91 ≡ false
    no_bracket [] [] h k = refl
    no_bracket [] (c ∷ digits) h k = ap (λ x. eqb x 91) (eqb-true c 58 (and_parts (eqb c 58) (list_all is_ascii_digit digits) k).0)
    no_bracket (c ∷ name) port h k =
        let first = (and_parts (is_name_character c || eqb c 37) (list_all (λ x. is_name_character x || eqb x 37) name) (and_parts _ _ h).0).0 in
        other c first

pub host_len-parts : (host port : List ℕ) → is_host host ≡ true → is_port_part port ≡ true → host_len (host ++ port) ≡ length host
host_len-parts host port h k = elim (or_cases (is_bracketed host) (is_encoded is_name_character host) h) [ inl literal ↦ bracketed host literal | inr name ↦ host_len-named host port name k ]
  where
    bracketed : (host : List ℕ) → is_bracketed host ≡ true → host_len (host ++ port) ≡ length host
    bracketed [] b = absurd (false≢true b)
    bracketed (c ∷ rest) b =
        let both = and_parts (eqb c 91) (is_address_and_bracket rest) b in
        subst (λ (x : ℕ). host_len (x ∷ (rest ++ port)) ≡ suc (length rest)) (sym (eqb-true c 91 both.0)) (host_len-bracketed rest port both.1)

-- no `@` is in a host or a port
host_apart : (text : List ℕ) → is_host text ≡ true → list_all (λ c. not (eqb c 64)) text ≡ true
host_apart text h =
    elim (or_cases (is_bracketed text) (is_encoded is_name_character text) h) [
      | inl literal ↦ list_all-wider is_literal_character (λ c. not (eqb c 64)) (λ c k. grind (arith, nat_tests)) text (literal_characters text literal)
      | inr name ↦ encoded_apart is_name_character (λ c. eqb c 64) (λ c k. grind (arith, nat_tests)) text name
    ]

port_apart : (text : List ℕ) → is_port_part text ≡ true → list_all (λ c. not (eqb c 64)) text ≡ true
port_apart [] h = refl
port_apart (c ∷ digits) h =
    let both = and_parts (eqb c 58) (list_all is_ascii_digit digits) h in
    and_from (not (eqb c 64)) (list_all (λ x. not (eqb x 64)) digits) (ap (λ x. not (eqb x 64)) (eqb-true c 58 both.0)) (list_all-wider is_ascii_digit (λ x. not (eqb x 64)) (λ x k. grind (arith, nat_tests)) digits both.1)

-- a text whose userinfo, and whose host and port, are known
found_from : (text : List ℕ) (u : Option (List ℕ)) (h p : List ℕ) → userinfo text ≡ u → host_and_port text ≡ h ++ p → is_host h ≡ true → is_port_part p ≡ true → Found text u h p
found_from text u h p one two hh pp =
    let len = ap host_len two ∙ host_len-parts h p hh pp in
    record {
      userinfo_is = one;
      host_is = ap (λ n. take n (host_and_port text)) len ∙ ap (take (length h)) two ∙ take_at h p (length h) refl;
      port_is = ap (λ n. drop n (host_and_port text)) len ∙ ap (drop (length h)) two ∙ drop_at h p (length h) refl;
    }

-- parts that hold what they may are those of their text
pub parts_found : (u : Option (List ℕ)) (h p : List ℕ) → AreParts u h p → Found (text_of_parts u h p) u h p
parts_found None h p are =
    let none = none_passes (λ c. eqb c 64) (h ++ p) (list_all-append (λ c. not (eqb c 64)) h p ∙ and_from _ _ (host_apart h are.host_test) (port_apart p are.port_test)) in
    found_from (h ++ p) None h p (rw none refl) (rw none refl) are.host_test are.port_test
parts_found (Some x) h p are =
    let text = (x ++ 64 ∷ []) ++ h ++ p in
    let shape : text ≡ x ++ 64 ∷ (h ++ p) = append_assoc (x ++ 64 ∷ []) h p ∙ append_assoc x (64 ∷ []) (h ++ p) in
    let apart = encoded_apart is_userinfo_character (λ c. eqb c 64) (λ c k. grind (arith, nat_tests)) x are.userinfo_test in
    let at = first_past (λ c. eqb c 64) x (64 ∷ (h ++ p)) apart (inr refl) in
    let within : position_or_len (λ c. eqb c 64) (x ++ 64 ∷ (h ++ p)) < length (x ++ 64 ∷ (h ++ p)) = omega (arith, at, length-append x (64 ∷ (h ++ p))) in
    let some : list_any (λ c. eqb c 64) (x ++ 64 ∷ (h ++ p)) ≡ true = any_is_found (λ c. eqb c 64) (x ++ 64 ∷ (h ++ p)) ∙ lt-ltb _ _ within in
    let before = before_after (λ c. eqb c 64) x (64 ∷ (h ++ p)) apart (inr refl) in
    let after : after_first (λ c. eqb c 64) (x ++ 64 ∷ (h ++ p)) ≡ h ++ p = ap (λ n. drop (n + 1) (x ++ 64 ∷ (h ++ p))) at ∙ drop_past x 64 (h ++ p) in
    subst (λ (t : List ℕ). Found t (Some x) h p) (sym shape) (found_from (x ++ 64 ∷ (h ++ p)) (Some x) h p (rw (some, before) refl) (rw (some, after) refl) are.host_test are.port_test)

-- they make an authority
pub authority_of_parts : (u : Option (List ℕ)) (h p : List ℕ) → AreParts u h p → is_authority (text_of_parts u h p) ≡ true
authority_of_parts u h p are =
    let found = parts_found u h p are in
    and_from _ _ (ap (if_there (is_encoded is_userinfo_character)) found.userinfo_is ∙ are.userinfo_test) (and_from _ _ (ap is_host found.host_is ∙ are.host_test) (ap is_port_part found.port_is ∙ are.port_test))

-- the parts of an authority hold what they may
pub parts_of_authority : (text : List ℕ) → is_authority text ≡ true → AreParts (userinfo text) (host text) (port_part text)
parts_of_authority text h =
    let outer = and_parts (if_there (is_encoded is_userinfo_character) (userinfo text)) (is_host_and_port (host_and_port text)) h in
    let inner = and_parts (is_host (host text)) (is_port_part (port_part text)) outer.1 in
    record { userinfo_test = outer.0; host_test = inner.0; port_test = inner.1 }
