-- Lemmas on scans of an address in brackets.
use Rattle.std.proofs.Common.{◌≡◌, ℕ, zero, suc, ◌+◌, ◌-◌, ◌<◌, ◌≤◌, Bool, true, false, ◌&&◌, ◌||◌, List, [], ◌∷◌, length, length-drop, take, drop, get_or, get_or-take, get_or-drop, eqb, ltb, Option, Some, sym, ap, ◌∙◌, subst, arith, inl, inr, lt-ltb}
use Rattle.std.specs.List.{list_all, position_or_len, prefix_len}
use Rattle.std.specs.Char.{is_ascii_hexdigit}
use Rattle.std.proofs.lemmas.Bool.{and_parts, and_from, or_cases, or_left, or_right, false≢true, eqb-true, eq-eqb, ltb-true}
use Rattle.std.proofs.lemmas.Bool.Decides.{nat_tests}
use Rattle.std.proofs.lemmas.List.{length-take-le, take-take, drop-take}
use Rattle.std.proofs.lemmas.List.Sums.{prefix_len-le-length, prefix_len_is, prefix_len_passes, position_or_len_is, AllPass-from_list_all, passes_at_first}
use Rattle.ref_uri.specs.Characters.{is_userinfo_character}
use Rattle.ref_uri.specs.Authority.{is_address_character, is_address, is_future_address, is_version_and_address, is_address_and_bracket}
use Rattle.ref_uri.proofs.ScanLemmas.{run_passes}
use Rattle.ref_uri.proofs.AuthorityCharacters.{either_characters}

-- a character of a front that passes
pub at_front : (q : ℕ → Bool) (t : List ℕ) (n k : ℕ) → n ≤ length t → k < n → list_all q (take n t) ≡ true → q (get_or t k 0) ≡ true
at_front q t n k le lt all =
    let within : k < length (take n t) = omega (arith, length-take-le n t le) in
    subst (λ (c : ℕ). q c ≡ true) (get_or-take n t k 0 lt) (AllPass-from_list_all q (take n t) all k 0 within)

-- the run is the front of characters that pass, where another follows
pub run_is : (q : ℕ → Bool) (t : List ℕ) (n : ℕ) → n < length t → list_all q (take n t) ≡ true → q (get_or t n 0) ≡ false → prefix_len q t ≡ n
run_is q t n lt all stop = prefix_len_is q t n 0 (omega arith) (λ k early. at_front q t n k (omega arith) early all) (λ _. stop)

hex_is_no_dot : (c : ℕ) → is_ascii_hexdigit c ≡ true → eqb c 46 ≡ false
hex_is_no_dot c h = grind (arith, nat_tests)

userinfo_is_no_bracket : (c : ℕ) → is_userinfo_character c ≡ true → eqb c 93 ≡ false
userinfo_is_no_bracket c h = grind (arith, nat_tests)

address_is_no_v : (c : ℕ) → is_address_character c ≡ true → (eqb c 118 || eqb c 86) ≡ false
address_is_no_v c h = grind (arith, nat_tests)

-- hex digits, a dot and a run of characters
pub version_sound : (t : List ℕ) (v a : ℕ) → v ≡ prefix_len is_ascii_hexdigit t → a ≡ prefix_len is_userinfo_character (drop (v + 1) t) → 0 < v → v < length t → get_or t v 0 ≡ 46 → 0 < a → is_version_and_address (take (v + 1 + a) t) ≡ true
version_sound t v a v_is a_is some within dot more =
    let short : a ≤ length (drop (v + 1) t) = omega (arith, prefix_len-le-length is_userinfo_character (drop (v + 1) t)) in
    let len : length (take (v + 1 + a) t) ≡ v + 1 + a = length-take-le (v + 1 + a) t (omega (arith, short, length-drop (v + 1) t)) in
    let first : position_or_len (λ c. eqb c 46) (take (v + 1 + a) t) ≡ v =
    position_or_len_is (λ c. eqb c 46) (take (v + 1 + a) t) v 0 (omega arith)
    (λ k early. hex_is_no_dot (get_or (take (v + 1 + a) t) k 0) (subst (λ (c : ℕ). is_ascii_hexdigit c ≡ true) (sym (get_or-take (v + 1 + a) t k 0 (omega arith))) (prefix_len_passes is_ascii_hexdigit t k 0 (omega arith))))
    (λ _. eq-eqb (get_or (take (v + 1 + a) t) v 0) 46 (get_or-take (v + 1 + a) t v 0 (omega arith) ∙ dot)) in
    let front : take v (take (v + 1 + a) t) ≡ take v t = take-take v (v + 1 + a) t (omega arith) in
    let back : drop (v + 1) (take (v + 1 + a) t) ≡ take a (drop (v + 1) t) = drop-take (v + 1) a t in
    let some_digits : ltb 0 (length (take v t)) ≡ true = lt-ltb 0 (length (take v t)) (omega (arith, length-take-le v t (omega arith))) in
    let some_more : ltb 0 (length (take a (drop (v + 1) t))) ≡ true = lt-ltb 0 (length (take a (drop (v + 1) t))) (omega (arith, length-take-le a (drop (v + 1) t) short)) in
    let digits : list_all is_ascii_hexdigit (take v t) ≡ true = subst (λ (n : ℕ). list_all is_ascii_hexdigit (take n t) ≡ true) (sym v_is) (run_passes is_ascii_hexdigit t) in
    let characters : list_all is_userinfo_character (take a (drop (v + 1) t)) ≡ true = subst (λ (n : ℕ). list_all is_userinfo_character (take n (drop (v + 1) t)) ≡ true) (sym a_is) (run_passes is_userinfo_character (drop (v + 1) t)) in
    rw (first, front, back, some_digits, some_more, digits) characters

-- the runs over such a front
abbrev pub VersionFound : List ℕ → ℕ → ℕ → Type 0
VersionFound t n v = (0 < v) × (v < length t) × (get_or t v 0 ≡ 46) × (0 < prefix_len is_userinfo_character (drop (v + 1) t)) × (v + 1 + prefix_len is_userinfo_character (drop (v + 1) t) ≡ n)

-- where such a front is before a `]`, the runs find it

pub version_found : (t : List ℕ) (n : ℕ) → n < length t → is_version_and_address (take n t) ≡ true → get_or t n 0 ≡ 93 → VersionFound t n (prefix_len is_ascii_hexdigit t)
version_found t n lt h bracket =
    let w = take n t in
    let dot = position_or_len (λ c. eqb c 46) w in
    let len : length w ≡ n = length-take-le n t (omega arith) in
    let last = and_parts (ltb 0 (length (take dot w)) && ltb 0 (length (drop (dot + 1) w)) && list_all is_ascii_hexdigit (take dot w)) (list_all is_userinfo_character (drop (dot + 1) w)) h in
    let third = and_parts (ltb 0 (length (take dot w)) && ltb 0 (length (drop (dot + 1) w))) (list_all is_ascii_hexdigit (take dot w)) last.0 in
    let second = and_parts (ltb 0 (length (take dot w))) (ltb 0 (length (drop (dot + 1) w))) third.0 in
    let digits : 0 < length (take dot w) = ltb-true 0 (length (take dot w)) second.0 in
    let more : 0 < length (drop (dot + 1) w) = ltb-true 0 (length (drop (dot + 1) w)) second.1 in
    let inner : dot + 1 < n = omega (arith, more, length-drop (dot + 1) w) in
    let some : 0 < dot = omega (arith, digits, length-take-le dot w (omega arith)) in
    let at_dot : get_or t dot 0 ≡ 46 = sym (get_or-take n t dot 0 (omega arith)) ∙ eqb-true (get_or w dot 0) 46 (passes_at_first (λ c. eqb c 46) w 0 (omega arith)) in
    let front : take dot w ≡ take dot t = take-take dot n t (omega arith) in
    let all_hex : list_all is_ascii_hexdigit (take dot t) ≡ true = subst (λ (l : List ℕ). list_all is_ascii_hexdigit l ≡ true) front third.1 in
    let v_is : prefix_len is_ascii_hexdigit t ≡ dot = run_is is_ascii_hexdigit t dot (omega arith) all_hex (ap is_ascii_hexdigit at_dot) in
    let rest = n - (dot + 1) in
    let sum : dot + 1 + rest ≡ n = omega arith in
    let back : drop (dot + 1) w ≡ take rest (drop (dot + 1) t) = ap (λ m. drop (dot + 1) (take m t)) (sym sum) ∙ drop-take (dot + 1) rest t in
    let all_more : list_all is_userinfo_character (take rest (drop (dot + 1) t)) ≡ true = subst (λ (l : List ℕ). list_all is_userinfo_character l ≡ true) back last.1 in
    let stop : get_or (drop (dot + 1) t) rest 0 ≡ 93 = get_or-drop (dot + 1) t rest 0 ∙ ap (λ m. get_or t m 0) sum ∙ bracket in
    let a_is : prefix_len is_userinfo_character (drop (dot + 1) t) ≡ rest = run_is is_userinfo_character (drop (dot + 1) t) rest (omega (arith, length-drop (dot + 1) t)) all_more (ap is_userinfo_character stop) in
    subst (λ (v : ℕ). VersionFound t n v) (sym v_is) (omega arith, omega arith, at_dot, omega arith, omega arith)

-- an address and the `]` after it
pub bracket_sound : (t : List ℕ) (a : ℕ) → a < length t → (is_address (take a t) || is_future_address (take a t)) ≡ true → get_or t a 0 ≡ 93 → is_address_and_bracket (take (a + 1) t) ≡ true
bracket_sound t a lt either bracket =
    let len : length (take (a + 1) t) ≡ a + 1 = length-take-le (a + 1) t (omega arith) in
    let all : list_all is_userinfo_character (take a t) ≡ true = either_characters (take a t) either in
    let first : position_or_len (λ c. eqb c 93) (take (a + 1) t) ≡ a =
    position_or_len_is (λ c. eqb c 93) (take (a + 1) t) a 0 (omega arith)
    (λ k early. userinfo_is_no_bracket (get_or (take (a + 1) t) k 0) (subst (λ (c : ℕ). is_userinfo_character c ≡ true) (sym (get_or-take (a + 1) t k 0 (omega arith))) (at_front is_userinfo_character t a k (omega arith) early all)))
    (λ _. eq-eqb (get_or (take (a + 1) t) a 0) 93 (get_or-take (a + 1) t a 0 (omega arith) ∙ bracket)) in
    let front : take a (take (a + 1) t) ≡ take a t = take-take a (a + 1) t (omega arith) in
    let whole : eqb (a + 1) (length (take (a + 1) t)) ≡ true = eq-eqb (a + 1) (length (take (a + 1) t)) (sym len) in
    rw (first, front, whole) either

-- a run of an address's characters is one
pub address_either : (t : List ℕ) (a : ℕ) → a ≡ prefix_len is_address_character t → 0 < a → (is_address (take a t) || is_future_address (take a t)) ≡ true
address_either t a is some =
    let short : a ≤ length t = omega (arith, prefix_len-le-length is_address_character t) in
    let more : ltb 0 (length (take a t)) ≡ true = lt-ltb 0 (length (take a t)) (omega (arith, length-take-le a t short)) in
    let all : list_all is_address_character (take a t) ≡ true = subst (λ (n : ℕ). list_all is_address_character (take n t) ≡ true) (sym is) (run_passes is_address_character t) in
    or_left (is_address (take a t)) (is_future_address (take a t)) (and_from (ltb 0 (length (take a t))) (list_all is_address_character (take a t)) more all)

-- `v` and what follows it
pub future_either : (t : List ℕ) (n : ℕ) → (eqb (get_or t 0 0) 118 || eqb (get_or t 0 0) 86) ≡ true → is_version_and_address (take n (drop 1 t)) ≡ true → (is_address (take (1 + n) t) || is_future_address (take (1 + n) t)) ≡ true
future_either [] n letter h = absurd (false≢true letter)
future_either (c ∷ t) n letter h =
    let e : 1 + n ≡ suc n = omega arith in
    rw e (or_right (is_address (c ∷ take n t)) (is_future_address (c ∷ take n t)) (and_from (eqb c 118 || eqb c 86) (is_version_and_address (take n t)) letter h))

-- a front that is an address and `]`
abbrev pub BracketFound : List ℕ → ℕ → Type 0
BracketFound t p = (get_or t p 0 ≡ 93) × ((is_address (take p t) || is_future_address (take p t)) ≡ true)

pub bracket_found : (t : List ℕ) (n : ℕ) → n ≤ length t → is_address_and_bracket (take n t) ≡ true → (0 < n) × BracketFound t (n - 1)
bracket_found t n le h =
    let w = take n t in
    let end = position_or_len (λ c. eqb c 93) w in
    let len : length w ≡ n = length-take-le n t le in
    let both = and_parts (eqb (end + 1) (length w)) (is_address (take end w) || is_future_address (take end w)) h in
    let last : end + 1 ≡ length w = eqb-true (end + 1) (length w) both.0 in
    let place : end ≡ n - 1 = omega arith in
    let at_end : get_or t end 0 ≡ 93 = sym (get_or-take n t end 0 (omega arith)) ∙ eqb-true (get_or w end 0) 93 (passes_at_first (λ c. eqb c 93) w 0 (omega arith)) in
    let front : take end w ≡ take end t = take-take end n t (omega arith) in
    let either : (is_address (take end t) || is_future_address (take end t)) ≡ true = subst (λ (l : List ℕ). (is_address l || is_future_address l) ≡ true) front both.1 in
    (omega arith, subst (λ (p : ℕ). BracketFound t p) place (at_end, either))

-- the first byte shows which address it is
pub address_found : (t : List ℕ) (p : ℕ) → p < length t → get_or t p 0 ≡ 93 → is_address (take p t) ≡ true → (prefix_len is_address_character t ≡ p) × (0 < p) × ((eqb (get_or t 0 0) 118 || eqb (get_or t 0 0) 86) ≡ false)
address_found t p lt bracket h =
    let both = and_parts (ltb 0 (length (take p t))) (list_all is_address_character (take p t)) h in
    let some : 0 < length (take p t) = ltb-true 0 (length (take p t)) both.0 in
    let more : 0 < p = omega (arith, some, length-take-le p t (omega arith)) in
    (run_is is_address_character t p lt both.1 (ap is_address_character bracket), more, address_is_no_v (get_or t 0 0) (at_front is_address_character t p 0 (omega arith) more both.1))

pub future_found : (t : List ℕ) (p : ℕ) → is_future_address (take p t) ≡ true → (0 < p) × ((eqb (get_or t 0 0) 118 || eqb (get_or t 0 0) 86) ≡ true) × (is_version_and_address (take (p - 1) (drop 1 t)) ≡ true)
future_found t zero h = absurd (false≢true h)
future_found [] (suc p) h = absurd (false≢true h)
future_found (c ∷ t) (suc p) h =
    let both = and_parts (eqb c 118 || eqb c 86) (is_version_and_address (take p t)) h in
    let e : suc p - 1 ≡ p = omega arith in
    (omega arith, both.0, subst (λ (n : ℕ). is_version_and_address (take n t) ≡ true) (sym e) both.1)

-- after a `v` an address of a later version is found, and after another byte a plain one
pub letter_found : (t r : List ℕ) (result : Option ℕ) → r ≡ drop 1 t → ((n : ℕ) → n < length r → is_version_and_address (take n r) ≡ true → get_or r n 0 ≡ 93 → result ≡ Some n) → (eqb (get_or t 0 0) 118 || eqb (get_or t 0 0) 86) ≡ true →
    (n : ℕ) → n < length t → (is_address (take n t) || is_future_address (take n t)) ≡ true → get_or t n 0 ≡ 93 → (0 < n) × (result ≡ Some (n - 1))
letter_found t r result is find letter n lt either bracket =
    elim (or_cases (is_address (take n t)) (is_future_address (take n t)) either) [
      | inl plain ↦ absurd (false≢true (sym (address_found t n lt bracket plain).2 ∙ letter))
      | inr future ↦
          let found = future_found t n future in
          let some : 0 < n = found.0 in
          let place : 1 + (n - 1) ≡ n = omega arith in
          let whole : is_version_and_address (take (n - 1) r) ≡ true = subst (λ (l : List ℕ). is_version_and_address (take (n - 1) l) ≡ true) (sym is) found.2 in
          let read : get_or r (n - 1) 0 ≡ 93 = ap (λ l. get_or l (n - 1) 0) is ∙ get_or-drop 1 t (n - 1) 0 ∙ ap (λ k. get_or t k 0) place ∙ bracket in
          (some, find (n - 1) (omega (arith, ap length is, length-drop 1 t)) whole read)
    ]

pub other_found : (t : List ℕ) → (eqb (get_or t 0 0) 118 || eqb (get_or t 0 0) 86) ≡ false → (n : ℕ) → n < length t → (is_address (take n t) || is_future_address (take n t)) ≡ true → get_or t n 0 ≡ 93 → (0 < n) × (prefix_len is_address_character t ≡ n)
other_found t other n lt either bracket =
    elim (or_cases (is_address (take n t)) (is_future_address (take n t)) either) [
      | inl plain ↦ (let found = address_found t n lt bracket plain in (found.1, found.0))
      | inr future ↦ absurd (false≢true (sym other ∙ (future_found t n future).1))
    ]
