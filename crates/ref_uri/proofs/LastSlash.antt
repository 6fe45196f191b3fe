-- What is before the last slash of a text.
use Rattle.std.proofs.Common.{◌≡◌, ◌≢◌, ℕ, suc, ◌+◌, ◌-◌, ◌<◌, ◌≤◌, Bool, true, false, not, List, [], ◌∷◌, ◌++◌, length, take, drop, get_or, eqb, refl, sym, ap, ◌∙◌, subst, arith, cond, ◌||◌}
use Rattle.std.specs.List.{before_last, suffix_len}
use Rattle.std.specs.Char.{is_ascii_hexdigit}
use Rattle.std.proofs.lemmas.Bool.{ne_eqb, eq-eqb, and_parts, and_from, and_right, false≢true}
use Rattle.std.proofs.lemmas.List.Folds.{list_all-append}
use Rattle.std.proofs.Math.Seq.{drop-cons}
use Rattle.ref_uri.specs.Characters.{has_whole_triples, begins_with_hex_digits, is_path_character}
use Rattle.ref_uri.specs.Components.{is_path}
use Rattle.ref_uri.specs.Resolution.{through_last_slash}
use Rattle.std.proofs.lemmas.List.{take_more, take-append-drop}
use Rattle.std.proofs.lemmas.List.Sums.{suffix_len_is}

abbrev pub is_slash : ℕ → Bool
is_slash c = eqb c 47

-- the last slash
pub before_last_at : (text : List ℕ) (k : ℕ) → k < length text → get_or text k 0 ≡ 47 → ((i : ℕ) → k < i → i < length text → get_or text i 0 ≢ 47) → before_last is_slash text ≡ take k text
before_last_at text k lt slash none =
    let others : (i : ℕ) → k + 1 ≤ i → i < length text → not (eqb (get_or text i 0) 47) ≡ true = λ i le below. ap not (ne_eqb (get_or text i 0) 47 (none i (omega arith) below)) in
    let one : k + 1 - 1 ≡ k = omega arith in
    let here : 0 < k + 1 → not (eqb (get_or text (k + 1 - 1) 0) 47) ≡ false = λ _. ap (λ j. not (eqb (get_or text j 0) 47)) one ∙ ap not (eq-eqb (get_or text k 0) 47 slash) in
    let len = suffix_len_is (λ c. not (eqb c 47)) text (k + 1) 0 (omega arith) others here in
    let n : length text - suffix_len (λ c. not (eqb c 47)) text - 1 ≡ k = omega (arith, len) in
    ap (λ n. take n text) n

-- no slash
pub before_last_none : (text : List ℕ) → ((i : ℕ) → i < length text → get_or text i 0 ≢ 47) → before_last is_slash text ≡ []
before_last_none text none =
    let all : (i : ℕ) → 0 ≤ i → i < length text → not (eqb (get_or text i 0) 47) ≡ true = λ i le below. ap not (ne_eqb (get_or text i 0) 47 (none i below)) in
    let start : 0 < 0 → not (eqb (get_or text (0 - 1) 0) 47) ≡ false = λ lt. absurd (omega arith) in
    let len = suffix_len_is (λ c. not (eqb c 47)) text 0 0 (omega arith) all start in
    let n : length text - suffix_len (λ c. not (eqb c 47)) text - 1 ≡ 0 = omega (arith, len) in
    ap (λ n. take n text) n

-- up to and with the last slash
pub through_last_slash_at : (text : List ℕ) (k : ℕ) → k < length text → get_or text k 0 ≡ 47 → ((i : ℕ) → k < i → i < length text → get_or text i 0 ≢ 47) → through_last_slash text ≡ take k text ++ 47 ∷ []
through_last_slash_at text k lt slash none =
    let others : (i : ℕ) → k + 1 ≤ i → i < length text → not (eqb (get_or text i 0) 47) ≡ true = λ i le below. ap not (ne_eqb (get_or text i 0) 47 (none i (omega arith) below)) in
    let one : k + 1 - 1 ≡ k = omega arith in
    let here : 0 < k + 1 → not (eqb (get_or text (k + 1 - 1) 0) 47) ≡ false = λ _. ap (λ j. not (eqb (get_or text j 0) 47)) one ∙ ap not (eq-eqb (get_or text k 0) 47 slash) in
    let len = suffix_len_is (λ c. not (eqb c 47)) text (k + 1) 0 (omega arith) others here in
    let n : length text - suffix_len (λ c. not (eqb c 47)) text ≡ k + 1 = omega (arith, len) in
    ap (λ n. take n text) n ∙ take_more text k 0 lt ∙ ap (λ c. take k text ++ c ∷ []) slash

pub through_last_slash_none : (text : List ℕ) → ((i : ℕ) → i < length text → get_or text i 0 ≢ 47) → through_last_slash text ≡ []
through_last_slash_none text none =
    let all : (i : ℕ) → 0 ≤ i → i < length text → not (eqb (get_or text i 0) 47) ≡ true = λ i le below. ap not (ne_eqb (get_or text i 0) 47 (none i below)) in
    let start : 0 < 0 → not (eqb (get_or text (0 - 1) 0) 47) ≡ false = λ lt. absurd (omega arith) in
    let len = suffix_len_is (λ c. not (eqb c 47)) text 0 0 (omega arith) all start in
    let n : length text - suffix_len (λ c. not (eqb c 47)) text ≡ 0 = omega (arith, len) in
    ap (λ n. take n text) n

-- whole triples are before a slash
pub whole_front : (front rest : List ℕ) → has_whole_triples (front ++ 47 ∷ rest) ≡ true → has_whole_triples front ≡ true
whole_front [] rest h = refl
whole_front (c ∷ front) rest h =
    let both = and_parts (cond (eqb c 37) (begins_with_hex_digits (front ++ 47 ∷ rest)) true) (has_whole_triples (front ++ 47 ∷ rest)) h in
    and_from (cond (eqb c 37) (begins_with_hex_digits front) true) (has_whole_triples front)
    (elim (eqb c 37) as (λ b. cond b (begins_with_hex_digits (front ++ 47 ∷ rest)) true ≡ true → cond b (begins_with_hex_digits front) true ≡ true) [
      | true ↦ λ t. digits_front front t
      | false ↦ λ _. refl
    ] both.0)
    (whole_front front rest both.1)
  where
    digits_front : (front : List ℕ) → begins_with_hex_digits (front ++ 47 ∷ rest) ≡ true → begins_with_hex_digits front ≡ true
    digits_front [] t = absurd (slash_no_digit rest t)
      where
        slash_no_digit : (rest : List ℕ) → begins_with_hex_digits (47 ∷ rest) ≡ true → ⊥
        slash_no_digit [] t = false≢true t
        slash_no_digit (c ∷ rest) t = false≢true t
    digits_front (a ∷ []) t = absurd (false≢true (sym (and_right (is_ascii_hexdigit a) false refl) ∙ t))
    digits_front (a ∷ b ∷ front) t = t

-- what is before a slash of a path is a path
pub front_is_path : (text : List ℕ) (k : ℕ) → k < length text → get_or text k 0 ≡ 47 → is_path text ≡ true → is_path (take k text) ≡ true
front_is_path text k lt slash h =
    let shape : text ≡ take k text ++ 47 ∷ drop (suc k) text = sym (take-append-drop k text) ∙ ap (λ t. take k text ++ t) (drop-cons text k 0 lt ∙ ap (λ c. c ∷ drop (suc k) text) slash) in
    let both = and_parts _ _ (subst (λ (t : List ℕ). is_path t ≡ true) shape h) in
    and_from _ _ (and_parts _ _ (sym (list_all-append (λ c. is_path_character c || eqb c 37) (take k text) (47 ∷ drop (suc k) text)) ∙ both.0)).0 (whole_front (take k text) (drop (suc k) text) both.1)
