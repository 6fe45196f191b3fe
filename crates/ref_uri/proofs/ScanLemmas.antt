-- Lemmas on runs of characters, and on the part of a text up to what ends it.
use Rattle.std.proofs.Common.{◌≡◌, ◌⊎◌, ℕ, suc, ◌+◌, ◌-◌, ◌<◌, ◌≤◌, Bool, true, false, cond, ◌||◌, not, List, [], ◌∷◌, length, take, drop, get_or, get_or-take, get_or-drop, length-drop, eqb, refl, sym, ap, ◌∙◌, subst, arith, inl, inr}
use Rattle.std.specs.List.{list_all, position_or_len, before_first, prefix_len}
use Rattle.std.proofs.lemmas.Bool.{and_parts, and_from, or_cases, or_right, false≢true, cases_Bool, cases_lt, eqb-true, eq-eqb}
use Rattle.std.proofs.lemmas.Bool.Decides.{nat_tests}
use Rattle.std.proofs.lemmas.List.{length-take-le, drop-take}
use Rattle.std.proofs.lemmas.List.Sums.{position_or_len_is, AllPass-from_list_all, prefix_len-le-length, fails_before_first, passes_at_first}
use Rattle.ref_uri.specs.Characters.{is_encoded, has_whole_triples}
use Rattle.ref_uri.specs.Components.{ends_authority}
use Rattle.ref_uri.specs.inner.Scans.{ends_authority_at}
use Rattle.ref_uri.proofs.PathLemmas.{before_first-cons}
use Rattle.ref_uri.proofs.AuthorityCharacters.{list_all-wider}

pub same_bool : (a b : Bool) → (a ≡ true → b ≡ true) → (b ≡ true → a ≡ true) → a ≡ b
same_bool true b f g = sym (f refl)
same_bool false true f g = g refl
same_bool false false f g = refl

-- a front whose characters don't end the part lies inside it
pub inside : (p q : ℕ → Bool) → ((c : ℕ) → q c ≡ true → p c ≡ false) → (t : List ℕ) (n : ℕ) → n ≤ length t → list_all q (take n t) ≡ true → n ≤ position_or_len p t
inside p q apart t n le all =
    let first = position_or_len p t in
    elim (cases_lt first n) [
      | inl lt ↦
          let ends : p (get_or t first 0) ≡ true = passes_at_first p t 0 (omega arith) in
          let within : first < length (take n t) = omega (arith, length-take-le n t le) in
          let is : q (get_or t first 0) ≡ true = subst (λ (c : ℕ). q c ≡ true) (get_or-take n t first 0 lt) (AllPass-from_list_all q (take n t) all first 0 within) in
          absurd (false≢true (sym (apart (get_or t first 0) is) ∙ ends))
      | inr ge ↦ ge
    ]

-- a front inside the authority that ends where an authority may end is the authority
pub ends_here : (t : List ℕ) (n : ℕ) → n ≤ position_or_len ends_authority t → ends_authority_at t n ≡ true → position_or_len ends_authority t ≡ n
ends_here t n le at =
    elim (cases_lt n (position_or_len ends_authority t)) [
      | inl lt ↦ elim (or_cases (eqb n (length t)) (ends_authority (get_or t n 0)) at) [
        | inl whole ↦ absurd (omega (arith, eqb-true n (length t) whole, prefix_len-le-length (λ c. not (ends_authority c)) t))
        | inr mark ↦ absurd (false≢true (sym (fails_before_first ends_authority t n 0 lt) ∙ mark))
      ]
      | inr ge ↦ omega arith
    ]

-- an authority ends at its end
pub ends_there : (t : List ℕ) (n : ℕ) → position_or_len ends_authority t ≡ n → ends_authority_at t n ≡ true
ends_there t n is =
    elim (cases_lt n (length t)) [
      | inl lt ↦ or_right (eqb n (length t)) (ends_authority (get_or t n 0)) (subst (λ (k : ℕ). ends_authority (get_or t k 0) ≡ true) is (passes_at_first ends_authority t 0 (omega arith)))
      | inr ge ↦
          let whole : eqb n (length t) ≡ true = eq-eqb n (length t) (omega (arith, prefix_len-le-length (λ c. not (ends_authority c)) t)) in
          rw whole refl
    ]

-- a run of characters that don't end the part goes to its end exactly where the part holds them alone
pub run_to_end : (q : ℕ → Bool) → ((c : ℕ) → q c ≡ true → ends_authority c ≡ false) → (t : List ℕ) → ends_authority_at t (prefix_len q t) ≡ list_all q (before_first ends_authority t)
run_to_end q apart [] = refl
run_to_end q apart (c ∷ t) =
    rw (before_first-cons ends_authority c t) (by_cases (run_to_end q apart t) (cases_Bool (q c)) (cases_Bool (ends_authority c)))
  where
    one_more : (a b : ℕ) → eqb (1 + a) (suc b) ≡ eqb a b
    one_more a b = grind (arith, nat_tests)

    no_zero : (a : ℕ) → eqb 0 (suc a) ≡ false
    no_zero a = grind (arith, nat_tests)

    read_on : (k : ℕ) → get_or (c ∷ t) (1 + k) 0 ≡ get_or t k 0
    read_on k = let e : 1 + k ≡ suc k = omega arith in rw e refl

    by_cases : ends_authority_at t (prefix_len q t) ≡ list_all q (before_first ends_authority t) → ((q c ≡ true) ⊎ (q c ≡ false)) → ((ends_authority c ≡ true) ⊎ (ends_authority c ≡ false)) →
        (eqb (cond (q c) (1 + prefix_len q t) 0) (suc (length t)) || ends_authority (get_or (c ∷ t) (cond (q c) (1 + prefix_len q t) 0) 0))
        ≡ list_all q (cond (ends_authority c) [] (c ∷ before_first ends_authority t))
    by_cases rest (inl is) (inl ends) = absurd (false≢true (sym (apart c is) ∙ ends))
    by_cases rest (inl is) (inr goes_on) =
        let test : eqb (1 + prefix_len q t) (suc (length t)) ≡ eqb (prefix_len q t) (length t) = one_more (prefix_len q t) (length t) in
        let read : get_or (c ∷ t) (1 + prefix_len q t) 0 ≡ get_or t (prefix_len q t) 0 = read_on (prefix_len q t) in
        rw (goes_on, is, test, read) rest
    by_cases rest (inr fails) (inl ends) = rw (fails, ends, no_zero (length t)) refl
    by_cases rest (inr fails) (inr goes_on) = rw (fails, goes_on, no_zero (length t)) (rw fails refl)

-- each character of a run passes
pub run_passes : (q : ℕ → Bool) (t : List ℕ) → list_all q (take (prefix_len q t) t) ≡ true
run_passes q [] = refl
run_passes q (c ∷ t) =
    elim (q c) as (λ b. (q c ≡ b) → list_all q (take (cond b (1 + prefix_len q t) 0) (c ∷ t)) ≡ true) [
      | true ↦ λ is. one_more (prefix_len q t) is (run_passes q t)
      | false ↦ λ _. refl
    ] refl
  where
    one_more : (k : ℕ) → q c ≡ true → list_all q (take k t) ≡ true → list_all q (take (1 + k) (c ∷ t)) ≡ true
    one_more k is rest = let e : 1 + k ≡ suc k = omega arith in rw e (and_from (q c) (list_all q (take k t)) is rest)

-- characters that are allowed and no `%`
pub plain_encoded : (allowed q : ℕ → Bool) → ((c : ℕ) → q c ≡ true → allowed c ≡ true) → ((c : ℕ) → q c ≡ true → eqb c 37 ≡ false) → (t : List ℕ) → list_all q t ≡ true → is_encoded allowed t ≡ true
plain_encoded allowed q inner plain t h =
    and_from (list_all (λ c. allowed c || eqb c 37) t) (has_whole_triples t)
    (list_all-wider q (λ c. allowed c || eqb c 37) (λ c k. let is : allowed c ≡ true = inner c k in rw is refl) t h)
    (whole t h)
  where
    whole : (t : List ℕ) → list_all q t ≡ true → has_whole_triples t ≡ true
    whole [] h = refl
    whole (c ∷ t) h =
        let both = and_parts (q c) (list_all q t) h in
        let other : eqb c 37 ≡ false = plain c both.0 in
        rw other (whole t both.1)

-- what a narrower class encodes a wider one does
pub encoded_wider : (p q : ℕ → Bool) → ((c : ℕ) → p c ≡ true → q c ≡ true) → (t : List ℕ) → is_encoded p t ≡ true → is_encoded q t ≡ true
encoded_wider p q wider t h =
    let both = and_parts (list_all (λ c. p c || eqb c 37) t) (has_whole_triples t) h in
    and_from (list_all (λ c. q c || eqb c 37) t) (has_whole_triples t)
    (list_all-wider (λ c. p c || eqb c 37) (λ c. q c || eqb c 37) (λ c k. elim (or_cases (p c) (eqb c 37) k) [ inl a ↦ (let is : q c ≡ true = wider c a in rw is refl) | inr percent ↦ or_right (q c) (eqb c 37) percent ]) t both.0)
    both.1

-- the place of the end, from a place inside the part on
pub position-drop : (p : ℕ → Bool) (t : List ℕ) (k : ℕ) → k ≤ position_or_len p t → position_or_len p t ≡ k + position_or_len p (drop k t)
position-drop p t k le =
    let rest = position_or_len p (drop k t) in
    let short = prefix_len-le-length (λ c. not (p c)) (drop k t) in
    let short_too = prefix_len-le-length (λ c. not (p c)) t in
    position_or_len_is p t (k + rest) 0 (omega (arith, short, short_too, length-drop k t)) before at
  where
    before : (j : ℕ) → j < k + position_or_len p (drop k t) → p (get_or t j 0) ≡ false
    before j lt =
        elim (cases_lt j k) [
          | inl early ↦ fails_before_first p t j 0 (omega arith)
          | inr late ↦
              let e : k + (j - k) ≡ j = omega arith in
              subst (λ (i : ℕ). p (get_or t i 0) ≡ false) e (subst (λ (c : ℕ). p c ≡ false) (get_or-drop k t (j - k) 0) (fails_before_first p (drop k t) (j - k) 0 (omega arith)))
        ]

    at : k + position_or_len p (drop k t) < length t → p (get_or t (k + position_or_len p (drop k t)) 0) ≡ true
    at lt = subst (λ (c : ℕ). p c ≡ true) (get_or-drop k t (position_or_len p (drop k t)) 0) (passes_at_first p (drop k t) 0 (omega (arith, lt, length-drop k t)))

-- the part after a place inside it
pub before_first-drop : (p : ℕ → Bool) (t : List ℕ) (k : ℕ) → k ≤ position_or_len p t → before_first p (drop k t) ≡ drop k (before_first p t)
before_first-drop p t k le =
    let e : position_or_len p t ≡ k + position_or_len p (drop k t) = position-drop p t k le in
    sym (ap (λ n. drop k (take n t)) e ∙ drop-take k (position_or_len p (drop k t)) t)

-- whether an authority may end, seen from a place inside the text
pub ends_authority_at-drop : (t : List ℕ) (k n : ℕ) → k ≤ length t → ends_authority_at (drop k t) n ≡ ends_authority_at t (k + n)
ends_authority_at-drop t k n le =
    ap (λ (c : ℕ). eqb n (length (drop k t)) || ends_authority c) (get_or-drop k t n 0) ∙ ap (λ (b : Bool). b || ends_authority (get_or t (k + n) 0)) (same n (length (drop k t)) (length t) (length-drop k t) le)
  where
    same : (n a b : ℕ) → a ≡ b - k → k ≤ b → eqb n a ≡ eqb (k + n) b
    same n a b e le = grind (arith, nat_tests)

-- where an element first passes in a front of a text, it first passes in the text
pub position-take : (p : ℕ → Bool) (t : List ℕ) (m : ℕ) → m ≤ length t → position_or_len p (take m t) < m → position_or_len p t ≡ position_or_len p (take m t)
position-take p t m le lt =
    let first = position_or_len p (take m t) in
    let len : length (take m t) ≡ m = length-take-le m t le in
    position_or_len_is p t first 0 (omega arith)
    (λ k early. subst (λ (c : ℕ). p c ≡ false) (get_or-take m t k 0 (omega arith)) (fails_before_first p (take m t) k 0 early))
    (λ _. subst (λ (c : ℕ). p c ≡ true) (get_or-take m t first 0 lt) (passes_at_first p (take m t) 0 (omega arith)))
