-- Lemmas on a scan of the front of a text: a scheme, or the first segment of a reference without one.
use Rattle.std.proofs.Common.{◌≡◌, ◌≢◌, ℕ, suc, ◌+◌, ◌-◌, ◌<◌, ◌≤◌, Bool, true, false, ◌&&◌, ◌||◌, not, List, [], ◌∷◌, length, take, drop, get_or, get_or-drop, cond, eqb, ltb, Some, None, option_map, refl, sym, ap, ◌∙◌, subst, arith, inl, inr, lt-ltb}
use Rattle.std.specs.List.{list_all, position_or_len, before_first, prefix_len}
use Rattle.std.specs.Char.{is_ascii_alphabetic}
use Rattle.std.proofs.lemmas.Bool.{and_parts, or_parts, or_from, or_cases, false≢true, false_from_ne_true, cases_Bool, cases_lt, cases_eq, eqb-true, eqb-false, eq-eqb}
use Rattle.std.proofs.lemmas.Bool.Decides.{nat_tests}
use Rattle.std.proofs.lemmas.List.{get_or_past, length-take-le, drop_more}
use Rattle.std.proofs.lemmas.List.Sums.{prefix_len-le-length, prefix_len_passes, position_or_len_is, passes_at_first, fails_before_first}
use Rattle.std.proofs.lemmas.List.Folds.{length-prefix_len}
use Rattle.ref_uri.specs.Characters.{is_encoded, is_scheme_character, is_name_character, is_segment_character, is_path_character}
use Rattle.ref_uri.specs.inner.Scans.{begins_encoded, begins_with_triple}
use Rattle.ref_uri.specs.inner.Class.{is_first_segment_character}
use Rattle.ref_uri.specs.declared.characters.Class.TheVariants.{FirstSegment, Path}
use Rattle.ref_uri.specs.Components.{scheme, authority, path, after_scheme, after_authority, begins_with_slashes, ends_scheme, ends_authority, ends_path, is_scheme, is_path}
use Rattle.ref_uri.specs.inner.Scans.{ends_authority_at}
use Rattle.ref_uri.specs.Reference.{is_uri_reference}
use Rattle.ref_uri.proofs.EncodedLemmas.{part_is, ends_later, passes_in_front, not_encoded_past}
use Rattle.ref_uri.proofs.PathLemmas.{scheme_test, no_scheme, no_path}
use Rattle.ref_uri.proofs.ScanLemmas.{run_passes, plain_encoded, encoded_wider}
use Rattle.ref_uri.proofs.BracketLemmas.{run_is, at_front}

-- the scheme, by where the first of `:/?#` is
scheme_there : (t : List ℕ) (n : ℕ) → position_or_len ends_scheme t ≡ n → 0 < n → get_or t n 0 ≡ 58 → scheme t ≡ Some (take n t)
unfolding scheme
scheme_there t n place some colon =
    let len : length (before_first ends_scheme t) ≡ n = length-prefix_len (λ c. not (ends_scheme c)) t ∙ place in
    let there : ltb 0 n ≡ true = lt-ltb 0 n some in
    let mark : eqb (get_or t n 0) 58 ≡ true = eq-eqb (get_or t n 0) 58 colon in
    rw (len, there, mark) (ap (λ k. Some (take k t)) place)

pub scheme_absent : (t : List ℕ) → eqb (get_or t (position_or_len ends_scheme t) 0) 58 ≡ false → scheme t ≡ None
unfolding scheme
scheme_absent t other =
    let len : length (before_first ends_scheme t) ≡ position_or_len ends_scheme t = length-prefix_len (λ c. not (ends_scheme c)) t in
    let mark : eqb (get_or t (length (before_first ends_scheme t)) 0) 58 ≡ false = ap (λ k. eqb (get_or t k 0) 58) len ∙ other in
    by_cases (ltb 0 (length (before_first ends_scheme t))) mark
  where
    by_cases : (b : Bool) → eqb (get_or t (length (before_first ends_scheme t)) 0) 58 ≡ false → cond (b && eqb (get_or t (length (before_first ends_scheme t)) 0) 58) (Some (before_first ends_scheme t)) None ≡ None
    by_cases true mark = rw mark refl
    by_cases false mark = refl

scheme_empty : (t : List ℕ) → position_or_len ends_scheme t ≡ 0 → scheme t ≡ None
unfolding scheme
scheme_empty t place =
    let len : length (before_first ends_scheme t) ≡ 0 = length-prefix_len (λ c. not (ends_scheme c)) t ∙ place in
    rw len refl

scheme_character_ends_nothing : (c : ℕ) → is_scheme_character c ≡ true → ends_scheme c ≡ false
scheme_character_ends_nothing c h = grind (arith, nat_tests)

-- a run of a scheme's characters before a `:` ends where the scheme would
run_before_colon : (t : List ℕ) (n : ℕ) → n ≡ prefix_len is_scheme_character t → n < length t → get_or t n 0 ≡ 58 → position_or_len ends_scheme t ≡ n
run_before_colon t n is lt colon =
    position_or_len_is ends_scheme t n 0 (omega arith)
    (λ k before. scheme_character_ends_nothing (get_or t k 0) (prefix_len_passes is_scheme_character t k 0 (omega arith)))
    (λ _. ap ends_scheme colon)

is_scheme_is : (t : List ℕ) (n : ℕ) → 0 < n → n ≤ length t → list_all is_scheme_character (take n t) ≡ true → is_scheme (take n t) ≡ is_ascii_alphabetic (get_or t 0 0)
is_scheme_is [] n some le all = absurd (omega arith)
is_scheme_is (c ∷ t) n some le all =
    let e : n ≡ suc (n - 1) = omega arith in
    ap (λ k. is_scheme (take k (c ∷ t))) e ∙ same (is_ascii_alphabetic c) (list_all is_scheme_character (take (n - 1) t)) (and_parts (is_scheme_character c) (list_all is_scheme_character (take (n - 1) t)) (subst (λ (k : ℕ). list_all is_scheme_character (take k (c ∷ t)) ≡ true) e all)).1
  where
    same : (a b : Bool) → b ≡ true → (a && b) ≡ a
    same true b h = h
    same false b h = refl

-- what a scheme is holds a scheme's characters
scheme_characters : (t : List ℕ) → is_scheme t ≡ true → list_all is_scheme_character t ≡ true
scheme_characters [] h = refl
scheme_characters (c ∷ t) h =
    let both = and_parts (is_ascii_alphabetic c) (list_all is_scheme_character t) h in
    let letter : is_ascii_alphabetic c ≡ true = both.0 in
    let first : is_scheme_character c ≡ true = grind (arith, nat_tests) in
    rw first both.1

letter_is_no_colon : (c : ℕ) → is_ascii_alphabetic c ≡ true → c ≢ 58
letter_is_no_colon c h = λ e. false≢true (sym (ap is_ascii_alphabetic e) ∙ h)

-- a letter, a run of a scheme's characters and a `:`
pub scheme_read_in : (t : List ℕ) (n : ℕ) → n ≡ prefix_len is_scheme_character t → n < length t → get_or t n 0 ≡ 58 → is_ascii_alphabetic (get_or t 0 0) ≡ true → (Some n ≡ option_map length (scheme t)) × (scheme_test t ≡ true)
scheme_read_in t n is lt colon letter =
    let some : 0 < n = elim (cases_eq n 0) [ inl zero ↦ absurd (letter_is_no_colon (get_or t 0 0) letter (ap (λ k. get_or t k 0) (sym zero) ∙ colon)) | inr more ↦ omega arith ] in
    let there : scheme t ≡ Some (take n t) = scheme_there t n (run_before_colon t n is lt colon) some colon in
    let all : list_all is_scheme_character (take n t) ≡ true = subst (λ (k : ℕ). list_all is_scheme_character (take k t) ≡ true) (sym is) (run_passes is_scheme_character t) in
    let is_one : is_scheme (take n t) ≡ true = is_scheme_is t n some (omega arith) all ∙ letter in
    let len : length (take n t) ≡ n = length-take-le n t (omega arith) in
    (rw (there, len) refl, rw (there, is_one) refl)

-- with no letter in front
pub scheme_refused : (t : List ℕ) (n : ℕ) → n ≡ prefix_len is_scheme_character t → n < length t → get_or t n 0 ≡ 58 → is_ascii_alphabetic (get_or t 0 0) ≡ false → is_uri_reference t ≡ false
scheme_refused t n is lt colon other =
    let place : position_or_len ends_scheme t ≡ n = run_before_colon t n is lt colon in
    let all : list_all is_scheme_character (take n t) ≡ true = subst (λ (k : ℕ). list_all is_scheme_character (take k t) ≡ true) (sym is) (run_passes is_scheme_character t) in
    no_scheme t (elim (cases_eq n 0) [
      | inl zero ↦
          let none : scheme t ≡ None = scheme_empty t (place ∙ zero) in
          let mark : eqb (get_or t (position_or_len ends_scheme t) 0) 58 ≡ true = eq-eqb (get_or t (position_or_len ends_scheme t) 0) 58 (ap (λ k. get_or t k 0) place ∙ colon) in
          rw (none, mark) refl
      | inr more ↦
          let there : scheme t ≡ Some (take n t) = scheme_there t n place (omega arith) colon in
          let is_none : is_scheme (take n t) ≡ false = is_scheme_is t n (omega arith) (omega arith) all ∙ other in
          rw (there, is_none) refl
    ])

segment_character : (c : ℕ) → is_scheme_character c ≡ true → is_first_segment_character c ≡ true
segment_character c h = grind (arith, nat_tests)

-- a run of a scheme's characters is one of a first segment's
pub segment_begun : (t : List ℕ) (n : ℕ) → n ≡ prefix_len is_scheme_character t → is_encoded is_first_segment_character (take n t) ≡ true
segment_begun t n is =
    plain_encoded is_first_segment_character is_scheme_character segment_character (λ c h. grind (arith, nat_tests)) (take n t)
    (subst (λ (k : ℕ). list_all is_scheme_character (take k t) ≡ true) (sym is) (run_passes is_scheme_character t))

-- what follows where there is neither a scheme nor an authority
nothing_before : (t : List ℕ) → scheme t ≡ None → begins_with_slashes t ≡ false → after_authority t ≡ t
unfolding after_authority authority after_scheme
nothing_before t none no_slashes = rw (none, no_slashes) refl

-- a first segment that ends where one may: there is no scheme, and it is a front of the path
pub segment_ends : (t : List ℕ) (m : ℕ) → m ≤ length t → is_encoded is_first_segment_character (take m t) ≡ true → ends_authority_at t m ≡ true →
    (scheme t ≡ None) × (eqb (get_or t (position_or_len ends_scheme t) 0) 58 ≡ false) × (m ≤ length (after_authority t)) × (is_encoded is_path_character (take m (after_authority t)) ≡ true)
segment_ends t m le h at_end =
    let place : position_or_len ends_scheme t ≡ m = part_is FirstSegment t m le h (λ lt. wider (get_or t m 0) (stop lt)) in
    let other : eqb (get_or t (position_or_len ends_scheme t) 0) 58 ≡ false = ap (λ k. eqb (get_or t k 0) 58) place ∙ no_colon in
    let none : scheme t ≡ None = scheme_absent t other in
    elim (cases_Bool (begins_with_slashes t)) [
      | inl slashes ↦
          let first : get_or t 0 0 ≡ 47 = eqb-true (get_or t 0 0) 47 (and_parts (eqb (get_or t 0 0) 47) (eqb (get_or t 1 0) 47) slashes).0 in
          let empty : m ≡ 0 = elim (cases_eq m 0) [ inl zero ↦ zero | inr more ↦ absurd (false≢true (subst (λ (c : ℕ). (is_first_segment_character c || eqb c 37) ≡ true) first (passes_in_front FirstSegment t m 0 (omega arith) le h))) ] in
          (none, other, omega arith, rw empty refl)
      | inr no_slashes ↦
          let same : after_authority t ≡ t = nothing_before t none no_slashes in
          (none, other, omega (arith, ap length same), rw same (encoded_wider is_first_segment_character is_path_character (λ c k. grind (arith, nat_tests)) (take m t) h))
    ]
  where
    wider : (c : ℕ) → ends_authority c ≡ true → ends_scheme c ≡ true
    wider c h = grind (arith, nat_tests)

    apart : (c : ℕ) → ends_authority c ≡ true → eqb c 58 ≡ false
    apart c h = grind (arith, nat_tests)

    stop : m < length t → ends_authority (get_or t m 0) ≡ true
    stop lt = elim (or_cases (eqb m (length t)) (ends_authority (get_or t m 0)) at_end) [ inl whole ↦ absurd (omega (arith, eqb-true m (length t) whole)) | inr mark ↦ mark ]

    no_colon : eqb (get_or t m 0) 58 ≡ false
    no_colon = elim (cases_lt m (length t)) [ inl lt ↦ apart (get_or t m 0) (stop lt) | inr past ↦ ap (λ c. eqb c 58) (get_or_past t m 0 past) ]

not_allowed : (p : ℕ → Bool) (t : List ℕ) (m : ℕ) → m < length t → begins_encoded p (drop m t) ≡ false → p (get_or t m 0) ≡ false
not_allowed p t m lt no_more =
    (or_parts (p (get_or t m 0)) (begins_with_triple (get_or t m 0 ∷ drop (m + 1) t)) (subst (λ (l : List ℕ). begins_encoded p l ≡ false) (drop_more t m 0 lt) no_more)).0

-- where the path's run stops too
stops_too : (t : List ℕ) → begins_encoded is_first_segment_character t ≡ false → eqb (get_or t 0 0) 58 ≡ false → eqb (get_or t 0 0) 47 ≡ false → begins_encoded is_path_character t ≡ false
stops_too [] no_more colon slash = refl
stops_too (c ∷ t) no_more colon slash =
    let both = or_parts (is_first_segment_character c) (begins_with_triple (c ∷ t)) no_more in
    let parts = or_parts (is_name_character c) (eqb c 64) both.0 in
    let segment : is_segment_character c ≡ false = or_from (is_name_character c) (eqb c 58 || (eqb c 64 || false)) parts.0 (or_from (eqb c 58) (eqb c 64 || false) colon (or_from (eqb c 64) false parts.1 refl)) in
    or_from (is_path_character c) (begins_with_triple (c ∷ t)) (or_from (is_segment_character c) (eqb c 47 || false) segment (or_from (eqb c 47) false slash refl)) both.1

-- a first segment that stops before a `:`
stopped_by_colon : (t : List ℕ) (n m : ℕ) → n ≡ prefix_len is_scheme_character t → get_or t n 0 ≢ 58 → m < length t → is_encoded is_first_segment_character (take m t) ≡ true → get_or t m 0 ≡ 58 → scheme_test t ≡ false
stopped_by_colon t n m is no_colon lt h colon =
    let place : position_or_len ends_scheme t ≡ m = part_is FirstSegment t m (omega arith) h (λ _. ap ends_scheme colon) in
    elim (cases_eq m 0) [
      | inl zero ↦
          let none : scheme t ≡ None = scheme_empty t (place ∙ zero) in
          let mark : eqb (get_or t (position_or_len ends_scheme t) 0) 58 ≡ true = eq-eqb (get_or t (position_or_len ends_scheme t) 0) 58 (ap (λ k. get_or t k 0) place ∙ colon) in
          rw (none, mark) refl
      | inr more ↦
          let there : scheme t ≡ Some (take m t) = scheme_there t m place (omega arith) colon in
          let no_scheme_there : is_scheme (take m t) ≡ false =
          false_from_ne_true _ (λ yes. no_colon (ap (λ k. get_or t k 0) (is ∙ run_is is_scheme_character t m lt (scheme_characters (take m t) yes) (ap is_scheme_character colon)) ∙ colon)) in
          rw (there, no_scheme_there) refl
    ]

path_is : (t : List ℕ) → after_authority t ≡ t → path t ≡ take (position_or_len ends_path t) t
unfolding path
path_is t same = ap (λ l. before_first ends_path l) same

-- a first segment that stops before a character that no path holds
stopped_by_other : (t : List ℕ) (m : ℕ) → m < length t → is_encoded is_first_segment_character (take m t) ≡ true → begins_encoded is_first_segment_character (drop m t) ≡ false → ends_authority (get_or t m 0) ≡ false → eqb (get_or t m 0) 58 ≡ false → is_uri_reference t ≡ false
stopped_by_other t m lt h no_more no_end no_colon =
    let place = position_or_len ends_scheme t in
    let later : m < place = ends_later FirstSegment t m lt h (no_scheme_end (get_or t m 0) no_end no_colon) in
    elim (cases_Bool (eqb (get_or t place 0) 58)) [
      | inl colon ↦
          let there : scheme t ≡ Some (take place t) = scheme_there t place refl (omega arith) (eqb-true (get_or t place 0) 58 colon) in
          let no_scheme_there : is_scheme (take place t) ≡ false =
          false_from_ne_true _ (λ yes. false≢true (sym (no_scheme_character (get_or t m 0) (not_allowed is_first_segment_character t m lt no_more)) ∙ at_front is_scheme_character t place m (prefix_len-le-length (λ c. not (ends_scheme c)) t) later (scheme_characters (take place t) yes))) in
          no_scheme t (rw (there, no_scheme_there) refl)
      | inr other ↦
          let same : after_authority t ≡ t = nothing_before t (scheme_absent t other) (no_slashes later) in
          let end = position_or_len ends_path t in
          let short : end ≤ length t = prefix_len-le-length (λ c. not (ends_path c)) t in
          let inner : m < end = path_goes_on later in
          let read : get_or (drop m t) 0 0 ≡ get_or t m 0 = get_or-drop m t 0 0 ∙ ap (λ k. get_or t k 0) (no_more_than m) in
          let colon : eqb (get_or (drop m t) 0 0) 58 ≡ false = ap (λ c. eqb c 58) read ∙ no_colon in
          let slash : eqb (get_or (drop m t) 0 0) 47 ≡ false = ap (λ c. eqb c 47) read ∙ no_slash (get_or t m 0) no_end in
          no_path t (ap is_path (path_is t same) ∙ not_encoded_past Path t m end inner short (stops_too (drop m t) no_more colon slash))
    ]
  where
    no_more_than : (k : ℕ) → k + 0 ≡ k
    no_more_than k = omega arith

    no_scheme_end : (c : ℕ) → ends_authority c ≡ false → eqb c 58 ≡ false → ends_scheme c ≡ false
    no_scheme_end c h k = grind (arith, nat_tests)

    no_slash : (c : ℕ) → ends_authority c ≡ false → eqb c 47 ≡ false
    no_slash c h = grind (arith, nat_tests)

    no_scheme_character : (c : ℕ) → is_first_segment_character c ≡ false → is_scheme_character c ≡ false
    no_scheme_character c h = false_from_ne_true _ (λ yes. false≢true (sym h ∙ segment_character c yes))

    path_end : (c : ℕ) → ends_path c ≡ true → ends_scheme c ≡ true
    path_end c h = grind (arith, nat_tests)

    no_slashes : m < position_or_len ends_scheme t → begins_with_slashes t ≡ false
    no_slashes later =
        false_from_ne_true _ (λ yes.
        let first : get_or t 0 0 ≡ 47 = eqb-true (get_or t 0 0) 47 (and_parts (eqb (get_or t 0 0) 47) (eqb (get_or t 1 0) 47) yes).0 in
        false≢true (sym (fails_before_first ends_scheme t 0 0 (omega arith)) ∙ ap ends_scheme first))

    path_goes_on : m < position_or_len ends_scheme t → m < position_or_len ends_path t
    path_goes_on later =
        elim (cases_lt m (position_or_len ends_path t)) [
          | inl goes_on ↦ goes_on
          | inr stops ↦
              let end = position_or_len ends_path t in
              absurd (false≢true (sym (fails_before_first ends_scheme t end 0 (omega arith)) ∙ path_end (get_or t end 0) (passes_at_first ends_path t 0 (omega arith))))
        ]

pub segment_refused : (t : List ℕ) (n m : ℕ) → n ≡ prefix_len is_scheme_character t → get_or t n 0 ≢ 58 → m ≤ length t → is_encoded is_first_segment_character (take m t) ≡ true → begins_encoded is_first_segment_character (drop m t) ≡ false → ends_authority_at t m ≡ false → is_uri_reference t ≡ false
segment_refused t n m is no_colon le h no_more no_end =
    let parts = or_parts (eqb m (length t)) (ends_authority (get_or t m 0)) no_end in
    let lt : m < length t = elim (cases_lt m (length t)) [ inl less ↦ less | inr past ↦ absurd (eqb-false m (length t) parts.0 (omega arith)) ] in
    elim (cases_Bool (eqb (get_or t m 0) 58)) [
      | inl colon ↦ no_scheme t (stopped_by_colon t n m is no_colon lt h (eqb-true (get_or t m 0) 58 colon))
      | inr other ↦ stopped_by_other t m lt h no_more parts.1 other
    ]
