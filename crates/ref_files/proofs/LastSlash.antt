-- Where the last slash of a path is.
use Rattle.std.proofs.Common.{◌≡◌, ◌≢◌, ℕ, zero, suc, ◌+◌, ◌-◌, ◌<◌, Bool, true, false, ◌||◌, not, List, [], ◌∷◌, length, take, drop, get_or, Option, Some, None, MatchOption, Bor, refl, sym, ap, ◌∙◌, arith, lit<}
use Rattle.std.specs.List.{list_any, before_last, after_last, suffix_len}
use Rattle.std.specs.Str.Pattern.{RFindsChar, SplitsAroundMatch}
use Rattle.std.proofs.lemmas.Bool.{ne_eqb, eq-eqb}
use Rattle.std.proofs.lemmas.List.{length-drop, get_or-drop}
use Rattle.std.proofs.lemmas.List.Sums.{suffix_len_is}
use Rattle.std.specs.Str.{NoCharPasses}
use Rattle.std.proofs.lemmas.Str.Pattern.{NoCharPasses-char}
use Rattle.ref_files.specs.Plain.{is_slash}

-- ---- a path without a slash, and one with it

no_slash_in : (text : List ℕ) → ((i : ℕ) → i < length text → get_or text i 0 ≢ 47) → list_any is_slash text ≡ false
no_slash_in [] none = refl
no_slash_in (c ∷ text) none = rw (ne_eqb c 47 (none 0 (omega arith))) (no_slash_in text (λ i l. none (suc i) (omega arith)))

a_slash : (text : List ℕ) (k : ℕ) → k < length text → get_or text k 0 ≡ 47 → list_any is_slash text ≡ true
a_slash [] k l is = absurd (omega arith)
a_slash (c ∷ text) zero l is = ap (λ b. b || list_any is_slash text) (eq-eqb c 47 is)
a_slash (c ∷ text) (suc k) l is = rw (a_slash text k (omega arith) is) (or_true (is_slash c))
  where
    or_true : (b : Bool) → (b || true) ≡ true
    or_true true = refl
    or_true false = refl

-- what is after the last slash holds none
behind : (text : List ℕ) (k : ℕ) → k < length text → get_or text k 0 ≡ 47 → ((i : ℕ) → k < i → i < length text → get_or text i 0 ≢ 47) → suffix_len (λ c. not (is_slash c)) text ≡ length text - (k + 1)
behind text k lt is none =
    let one : k + 1 - 1 ≡ k = omega arith in
    suffix_len_is (λ c. not (is_slash c)) text (k + 1) 0 (omega arith) (λ i le below. ap not (ne_eqb (get_or text i 0) 47 (none i (omega arith) below)))
    (λ _. ap (λ j. not (is_slash (get_or text j 0))) one ∙ ap not (eq-eqb (get_or text k 0) 47 is))

last_one : (text : List ℕ) (k j : ℕ) → NoCharPasses is_slash (drop j text) → j ≡ k + 1 → (i : ℕ) → k < i → i < length text → get_or text i 0 ≢ 47
last_one text k j none width i after l is =
    let back : j + (i - j) ≡ i = omega (arith, width) in
    NoCharPasses-char 47 (drop j text) (i - j) none (lit< tt) (omega (arith, length-drop j text)) (get_or-drop j text (i - j) 0 ∙ ap (λ n. get_or text n 0) back ∙ is)

-- ---- `rsplit_once` at a slash, in the words `before_last` and `after_last`

pub slash_split : (text : List ℕ) (r : Option (Bor (List ℕ) × Bor (List ℕ))) → MatchOption r (RFindsChar 47 text None) (λ x. SplitsAroundMatch (RFindsChar 47) text x.0.now x.1.now)
    → MatchOption r (list_any is_slash text ≡ false) (λ x. (list_any is_slash text ≡ true) × (x.0.now ≡ before_last is_slash text) × (x.1.now ≡ after_last is_slash text))
slash_split text None h = no_slash_in text (λ i l. NoCharPasses-char 47 text i h (lit< tt) l)
slash_split text (Some x) (k, j, finds, front, back, le, len, rest) =
    let width : j ≡ k + 1 = finds.1.ends in
    let lt : k < length text = omega (arith, width, rest) in
    let is : get_or text k 0 ≡ 47 = finds.1.byte (lit< tt) in
    let none : (i : ℕ) → k < i → i < length text → get_or text i 0 ≢ 47 = last_one text k j finds.0 width in
    let long = behind text k lt is none in
    let before : length text - suffix_len (λ c. not (is_slash c)) text - 1 ≡ k = omega (arith, long) in
    let after : length text - suffix_len (λ c. not (is_slash c)) text ≡ j = omega (arith, long, width) in
    (a_slash text k lt is, front ∙ ap (λ n. take n text) (sym before), back ∙ ap (λ n. drop n text) (sym after))
