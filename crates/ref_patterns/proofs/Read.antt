-- How a text is read, one part after another.
use Rattle.std.proofs.Common.{◌≡◌, ◌<◌, ◌≤◌, ◌+◌, ◌-◌, ℕ, zero, suc, List, [], ◌∷◌, ◌++◌, Bool, true, ◌==◌, length, drop, get_or, sym, ap, ap₂, ◌∙◌, arith, add-one, min, inl, inr, ◌^◌, drop_of_length-le, length-drop, append_assoc}
use Rattle.std.proofs.lemmas.Bool.{cases_lt, le-leb, lt-leb}
use lib.Dec.{leb}
use Rattle.std.proofs.lemmas.List.{drop_more}
use Rattle.ref_patterns.specs.declared.pattern.Part.{Part}
use Rattle.ref_patterns.specs.Patterns.{parts_after, with_name, first_part}

-- whether a name begins at an index
abbrev pub is_first_at : List ℕ → ℕ → Bool
is_first_at bytes zero = true
is_first_at bytes (suc index) = get_or bytes index 0 == 47

-- bytes that belong to the part before are passed over
abbrev IsPassed : ℕ → List ℕ → ℕ → Type 0
IsPassed bytes s i = parts_after bytes (is_first_at s i) (drop i s) ≡ parts_after 0 (is_first_at s (i + bytes)) (drop (i + bytes) s)

one_more : (bytes : ℕ) (s : List ℕ) (i : ℕ) → i < length s → IsPassed bytes s (i + 1) → IsPassed (suc bytes) s i
one_more bytes s i within passed =
    let e : i + 1 + bytes ≡ i + suc bytes = omega arith in
    ap (parts_after (suc bytes) (is_first_at s i)) (drop_more s i 0 within)
    ∙ ap (λ j. parts_after bytes (is_first_at s j) (drop (i + 1) s)) (sym (add-one i))
    ∙ passed
    ∙ ap (λ j. parts_after 0 (is_first_at s j) (drop j s)) e

at_end : (bytes : ℕ) (s : List ℕ) (i : ℕ) → length s ≤ i → IsPassed (suc bytes) s i
at_end bytes s i beyond =
    let further : length s ≤ i + suc bytes = omega (arith, beyond) in
    ap (parts_after (suc bytes) (is_first_at s i)) (drop_of_length-le s beyond)
    ∙ sym (ap (parts_after 0 (is_first_at s (i + suc bytes))) (drop_of_length-le s further))

passed_over : (bytes : ℕ) (s : List ℕ) (i : ℕ) → IsPassed bytes s i
passed_over zero s i = let e : i ≡ i + 0 = omega arith in ap (λ j. parts_after 0 (is_first_at s j) (drop j s)) e
passed_over (suc bytes) s i =
    let later = passed_over bytes s (i + 1) in
    elim (cases_lt i (length s)) [ inl within ↦ one_more bytes s i within later | inr beyond ↦ at_end bytes s i beyond ]

saturated : (s : List ℕ) (k next : ℕ) → next ≡ min k (2 ^ 64 - 1) → length s < 2 ^ 64 → parts_after 0 (is_first_at s k) (drop k s) ≡ parts_after 0 (is_first_at s next) (drop next s)
saturated s k next is few = elim (cases_lt k (2 ^ 64)) [
  | inl below ↦ let e : k ≡ next = omega (arith, is, below) in ap (λ j. parts_after 0 (is_first_at s j) (drop j s)) e
  | inr above ↦
      let a : length s ≤ k = omega (arith, above, few) in
      let b : length s ≤ next = omega (arith, above, few, is) in
      ap (parts_after 0 (is_first_at s k)) (drop_of_length-le s a) ∙ sym (ap (parts_after 0 (is_first_at s next)) (drop_of_length-le s b))
]

same_test : (a b c d : ℕ) → (a ≤ b → c ≤ d) → (b < a → d < c) → leb a b ≡ leb c d
same_test a b c d below above = elim (cases_lt b a) [
  | inl less ↦ lt-leb a b less ∙ sym (lt-leb c d (above less))
  | inr more ↦ le-leb a b more ∙ sym (le-leb c d (below more))
]

-- whether a part is the last one
last_part : (s : List ℕ) (i n next : ℕ) → i < length s → next ≡ min (i + n) (2 ^ 64 - 1) → length s < 2 ^ 64 → leb (length (drop i s)) n ≡ leb (length s) next
last_part s i n next within is few =
    let left = length-drop i s in
    same_test (length (drop i s)) n (length s) next (λ h. omega (arith, left, h, is, few, within)) (λ h. omega (arith, left, h, is, few, within))

-- the first part of what is left, and what is left after it
pub one_part : (s : List ℕ) (i n next : ℕ) (part : Part) → i < length s → 1 ≤ n → (part, n) ≡ first_part (is_first_at s i) (drop i s) → next ≡ min (i + n) (2 ^ 64 - 1) → length s < 2 ^ 64
    → parts_after 0 (is_first_at s i) (drop i s) ≡ with_name (leb (length s) next) part ++ parts_after 0 (is_first_at s next) (drop next s)
one_part s i n next part within some read is few =
    let t = drop (i + 1) s in
    let b = get_or s i 0 in
    let first = is_first_at s i in
    let e : i + 1 + (n - 1) ≡ i + n = omega (arith, some) in
    let left : drop i s ≡ b ∷ t = drop_more s i 0 within in
    let own : first_part first (b ∷ t) ≡ (part, n) = ap (first_part first) (sym left) ∙ sym read in
    let last : leb (length (b ∷ t)) n ≡ leb (length s) next = ap (λ (l : List ℕ). leb (length l) n) (sym left) ∙ last_part s i n next within is few in
    ap (parts_after 0 first) left
    ∙ ap (λ (p : Part × ℕ). with_name (leb (length (b ∷ t)) p.1) p.0 ++ parts_after (p.1 - 1) (b == 47) t) own
    ∙ ap₂ (λ (l : Bool) (r : List Part). with_name l part ++ r) last
    (ap (λ j. parts_after (n - 1) (is_first_at s j) t) (sym (add-one i))
    ∙ passed_over (n - 1) s (i + 1)
    ∙ ap (λ j. parts_after 0 (is_first_at s j) (drop j s)) e
    ∙ saturated s (i + n) next is few)

pub after_all : (s : List ℕ) (i : ℕ) → length s ≤ i → parts_after 0 (is_first_at s i) (drop i s) ≡ []
after_all s i beyond = ap (parts_after 0 (is_first_at s i)) (drop_of_length-le s beyond)

-- whether a name begins at an index, as it is looked up
pub first_is : (s : List ℕ) (i : ℕ) → 0 < i → (get_or s (i - 1) 0 == 47) ≡ is_first_at s i
first_is s zero some = absurd (omega arith)
first_is s (suc i) some = let e : suc i - 1 ≡ i = omega arith in ap (λ j. get_or s j 0 == 47) e

pub first_of_all : (s : List ℕ) (i : ℕ) → i ≡ 0 → true ≡ is_first_at s i
first_of_all s i e = sym (ap (is_first_at s) e)

pub added : (parts : List Part) (more : List Part) (left rest all : List Part) → parts ++ left ≡ all → left ≡ more ++ rest → (parts ++ more) ++ rest ≡ all
added parts more left rest all whole is = append_assoc parts more rest ∙ ap (λ l. parts ++ l) (sym is) ∙ whole
