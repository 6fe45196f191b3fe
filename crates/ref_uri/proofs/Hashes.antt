-- Where a `#` is in a text.
use Rattle.std.proofs.Common.{◌≡◌, ◌≢◌, ℕ, zero, suc, ◌+◌, ◌-◌, ◌<◌, Bool, true, false, ◌||◌, not, List, [], ◌∷◌, length, take, drop, get_or, slice_index, Option, Some, None, Ok, MatchOption, Bor, cond, eqb, refl, sym, ap, ◌∙◌, arith, lit<}
use Rattle.std.specs.List.{list_any, before_last, after_last, suffix_len}
use Rattle.std.specs.Str.Pattern.{RFindsChar, SplitsAroundMatch}
use Rattle.std.proofs.lemmas.Bool.{ne_eqb, eq-eqb}
use Rattle.std.proofs.lemmas.List.{length-drop, get_or-drop}
use Rattle.std.proofs.lemmas.List.Sums.{suffix_len_is}
use Rattle.std.specs.Str.{NoCharPasses}
use Rattle.std.proofs.lemmas.Str.Pattern.{NoCharPasses-char}
use Rattle.ref_uri.specs.Targets.{uri_part, fragment_part, uri_against, target}

abbrev pub is_hash : ℕ → Bool
is_hash c = eqb c 35

-- ---- a text without a `#`, and one with it

pub no_hash : (text : List ℕ) → ((i : ℕ) → i < length text → get_or text i 0 ≢ 35) → list_any is_hash text ≡ false
no_hash [] none = refl
no_hash (c ∷ text) none = rw (ne_eqb c 35 (none 0 (omega arith))) (no_hash text (λ i l. none (suc i) (omega arith)))

a_hash : (text : List ℕ) (k : ℕ) → k < length text → get_or text k 0 ≡ 35 → list_any is_hash text ≡ true
a_hash [] k l is = absurd (omega arith)
a_hash (c ∷ text) zero l is = ap (λ b. b || list_any is_hash text) (eq-eqb c 35 is)
a_hash (c ∷ text) (suc k) l is = rw (a_hash text k (omega arith) is) (or_true (is_hash c))
  where
    or_true : (b : Bool) → (b || true) ≡ true
    or_true true = refl
    or_true false = refl

-- what is after the last `#` holds none
behind : (text : List ℕ) (k : ℕ) → k < length text → get_or text k 0 ≡ 35 → ((i : ℕ) → k < i → i < length text → get_or text i 0 ≢ 35) → suffix_len (λ c. not (is_hash c)) text ≡ length text - (k + 1)
behind text k lt is none =
    let one : k + 1 - 1 ≡ k = omega arith in
    suffix_len_is (λ c. not (is_hash c)) text (k + 1) 0 (omega arith) (λ i le below. ap not (ne_eqb (get_or text i 0) 35 (none i (omega arith) below)))
    (λ _. ap (λ j. not (is_hash (get_or text j 0))) one ∙ ap not (eq-eqb (get_or text k 0) 35 is))

last_one : (text : List ℕ) (k j : ℕ) → NoCharPasses is_hash (drop j text) → j ≡ k + 1 → (i : ℕ) → k < i → i < length text → get_or text i 0 ≢ 35
last_one text k j none width i after l is =
    let back : j + (i - j) ≡ i = omega (arith, width) in
    NoCharPasses-char 35 (drop j text) (i - j) none (lit< tt) (omega (arith, length-drop j text)) (get_or-drop j text (i - j) 0 ∙ ap (λ n. get_or text n 0) back ∙ is)

-- ---- `rsplit_once` at a `#`, in the words `before_last` and `after_last`

pub hash_split : (text : List ℕ) (r : Option (Bor (List ℕ) × Bor (List ℕ))) → MatchOption r (RFindsChar 35 text None) (λ x. SplitsAroundMatch (RFindsChar 35) text x.0.now x.1.now)
    → MatchOption r (list_any is_hash text ≡ false) (λ x. (list_any is_hash text ≡ true) × (x.0.now ≡ before_last is_hash text) × (x.1.now ≡ after_last is_hash text))
hash_split text None h = no_hash text (λ i l. NoCharPasses-char 35 text i h (lit< tt) l)
hash_split text (Some x) (k, j, finds, front, back, le, len, rest) =
    let width : j ≡ k + 1 = finds.1.ends in
    let lt : k < length text = omega (arith, width, rest) in
    let is : get_or text k 0 ≡ 35 = finds.1.byte (lit< tt) in
    let none : (i : ℕ) → k < i → i < length text → get_or text i 0 ≢ 35 = last_one text k j finds.0 width in
    let long = behind text k lt is none in
    let before : length text - suffix_len (λ c. not (is_hash c)) text - 1 ≡ k = omega (arith, long) in
    let after : length text - suffix_len (λ c. not (is_hash c)) text ≡ j = omega (arith, long, width) in
    (a_hash text k lt is, front ∙ ap (λ n. take n text) (sym before), back ∙ ap (λ n. drop n text) (sym after))

-- ---- the parts of a reference

pub uri_part-split : (text before : List ℕ) → list_any is_hash text ≡ true → before ≡ before_last is_hash text → before ≡ uri_part text
uri_part-split text before some is = is ∙ sym (ap (λ b. cond b (before_last is_hash text) text) some)

pub uri_part-whole : (text : List ℕ) → list_any is_hash text ≡ false → text ≡ uri_part text
uri_part-whole text none = sym (ap (λ b. cond b (before_last is_hash text) text) none)

-- the text doesn't begin with `#`
pub not_in_front : (text : List ℕ) → ((rest : List ℕ) → text ≢ 35 ∷ rest) → is_hash (slice_index text 0) ≡ false
not_in_front [] h = refl
not_in_front (c ∷ text) h = ne_eqb c 35 (λ is. h text (ap (λ x. x ∷ text) is))

pub fragment_part-split : (text after : List ℕ) → is_hash (slice_index text 0) ≡ false → list_any is_hash text ≡ true → after ≡ after_last is_hash text → after ≡ fragment_part text
fragment_part-split text after front some is =
    is ∙ sym (ap (λ b. cond b (drop 1 text) (cond (list_any is_hash text) (after_last is_hash text) [])) front ∙ ap (λ b. cond b (after_last is_hash text) []) some)

pub fragment_part-none : (text : List ℕ) → is_hash (slice_index text 0) ≡ false → list_any is_hash text ≡ false → [] ≡ fragment_part text
fragment_part-none text front none =
    sym (ap (λ b. cond b (drop 1 text) (cond (list_any is_hash text) (after_last is_hash text) [])) front ∙ ap (λ b. cond b (after_last is_hash text) []) none)

pub target-against : (base text : List ℕ) → is_hash (slice_index text 0) ≡ false → target base text ≡ uri_against base (uri_part text)
target-against base text front = ap (λ b. cond b (Ok base) (uri_against base (uri_part text))) front

first_false : (a b : Bool) → (a || b) ≡ false → a ≡ false
first_false true b is = cc
first_false false b is = refl

-- a text without a `#` has no fragment
pub fragment_part-hashless : (text : List ℕ) → list_any is_hash text ≡ false → [] ≡ fragment_part text
fragment_part-hashless [] none = refl
fragment_part-hashless (c ∷ text) none = fragment_part-none (c ∷ text) (first_false (is_hash c) (list_any is_hash text) none) none

-- a text with a `#` in front has the rest as its fragment
pub fragment_part-behind : (text rest : List ℕ) → text ≡ 35 ∷ rest → rest ≡ fragment_part text
fragment_part-behind text rest is = sym (ap fragment_part is)
