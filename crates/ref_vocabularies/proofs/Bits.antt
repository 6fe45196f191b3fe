-- The known vocabularies of a number's bits.
use Rattle.std.proofs.Common.{◌≡◌, ℕ, ◌*◌, ◌<◌, ◌^◌, ◌==◌, Bool, true, false, not, ◌&&◌, ◌||◌, List, [], ◌∷◌, filter, min, max, bit_and, nat_eq, bytes_eq, get_or, zero, suc, zero-mul, one-mul, lit<, refl, sym, ◌∙◌, ap, arith}
use Rattle.std.specs.Int.{bit_at}
use Rattle.std.specs.Int.RustNames.{bit_or}
use Rattle.std.specs.Cmp.Lexicographic.{pointwise, lists_equiv}
use Rattle.std.proofs.lemmas.Bool.{and_parts, false≢true}
use Rattle.std.proofs.lemmas.Bool.Decides.{nat_tests}
use Rattle.std.proofs.lemmas.Nat.Bits.{bit_at_or, bit_at_and, bit_at-pow_same, bit_at-pow_other, and_pow, bit_at-lt, same_from_bits_below}
use Rattle.std.proofs.lemmas.Map.Views.{any-filter_same}
use Rattle.ref_vocabularies.specs.Vocabularies.{Vocabulary, Standard, Custom, Known, Core, Applicator, Unevaluated, Validation, Metadata, Format, FormatAnnotation, Content, FormatAssertion, all_known, bit, known_eq, has_known, VocabularySet, set_eq}
use Rattle.ref_vocabularies.specs.inner.Alike.{known_equivalence}
use Rattle.ref_vocabularies.specs.inner.Kept.{known_of, mask}

at-bit : (k : Known) → get_or all_known (bit k) Core ≡ k
at-bit Core = refl
at-bit Applicator = refl
at-bit Unevaluated = refl
at-bit Validation = refl
at-bit Metadata = refl
at-bit Format = refl
at-bit FormatAnnotation = refl
at-bit Content = refl
at-bit FormatAssertion = refl

pub bit_injective : (j k : Known) → bit j ≡ bit k → j ≡ k
bit_injective j k e = sym (at-bit j) ∙ ap (λ n. get_or all_known n Core) e ∙ at-bit k

pub known_eq-is : (j k : Known) → known_eq j k ≡ true → j ≡ k
known_eq-is j k e = bit_injective j k (grind (arith, nat_tests))

has_all : (k : Known) → has_known all_known k ≡ true
has_all Core = refl
has_all Applicator = refl
has_all Unevaluated = refl
has_all Validation = refl
has_all Metadata = refl
has_all Format = refl
has_all FormatAnnotation = refl
has_all Content = refl
has_all FormatAssertion = refl

and-true : (b : Bool) → (b && true) ≡ b
and-true true = refl
and-true false = refl

-- a filter of all of them has those that pass
pub has_known-filter : (p : Known → Bool) (k : Known) → has_known (filter p all_known) k ≡ p k
has_known-filter p k =
    any-filter_same (λ j. known_eq j k) p (p k) (λ j e. ap p (known_eq-is j k e)) all_known
    ∙ ap (λ b. p k && b) (has_all k) ∙ and-true (p k)

-- the same test, the same list
pub filter-same : (p q : Known → Bool) → ((k : Known) → p k ≡ q k) → filter p all_known ≡ filter q all_known
filter-same p q same = λ i. filter (λ k. same k i) all_known

max_bit : (a b : ℕ) (t : Bool) → a < 2 → (t ≡ true → b ≡ 1) → (t ≡ false → b ≡ 0) → (max a b == 1) ≡ ((a == 1) || t)
max_bit a b true small one none = let e = one refl in grind (arith, nat_tests)
max_bit a b false small one none = let e = none refl in grind (arith, nat_tests)

same_bit : (k j : Known) → known_eq k j ≡ true → bit_at (2 ^ bit k) (bit j) ≡ 1
same_bit k j e =
    let alike : bit j ≡ bit k = grind (arith, nat_tests) in
    ap (λ i. bit_at (2 ^ bit k) i) alike ∙ bit_at-pow_same (bit k)

other_bit : (k j : Known) → known_eq k j ≡ false → bit_at (2 ^ bit k) (bit j) ≡ 0
other_bit k j e = bit_at-pow_other (bit k) (bit j) (λ alike. grind (arith, nat_tests))

bit_of-or : (n : ℕ) (k j : Known) → (bit_at (bit_or n (2 ^ bit k)) (bit j) == 1) ≡ (has_known (known_of n) j || known_eq k j)
bit_of-or n k j =
    ap (λ m. m == 1) (bit_at_or n (2 ^ bit k) (bit j))
    ∙ max_bit (bit_at n (bit j)) (bit_at (2 ^ bit k) (bit j)) (known_eq k j) (bit_at-lt n (bit j)) (same_bit k j) (other_bit k j)
    ∙ ap (λ b. b || known_eq k j) (sym (has_known-filter (λ l. bit_at n (bit l) == 1) j))

-- to set a bit adds its vocabulary
pub known_of-or : (n : ℕ) (k : Known) → known_of (bit_or n (2 ^ bit k)) ≡ filter (λ j. has_known (known_of n) j || known_eq k j) all_known
known_of-or n k = filter-same (λ j. bit_at (bit_or n (2 ^ bit k)) (bit j) == 1) (λ j. has_known (known_of n) j || known_eq k j) (bit_of-or n k)

-- bits past the ninth mean nothing
bit_at-all : (k : Known) → bit_at 511 (bit k) ≡ 1
bit_at-all Core = refl
bit_at-all Applicator = refl
bit_at-all Unevaluated = refl
bit_at-all Validation = refl
bit_at-all Metadata = refl
bit_at-all Format = refl
bit_at-all FormatAnnotation = refl
bit_at-all Content = refl
bit_at-all FormatAssertion = refl

min_bit : (a b : ℕ) → a < 2 → b ≡ 1 → (min a b == 1) ≡ (a == 1)
min_bit a b small one = ap (λ n. n == 1) (omega arith)

bit_of-and : (n : ℕ) (k : Known) → (bit_at (bit_and n 511) (bit k) == 1) ≡ (bit_at n (bit k) == 1)
bit_of-and n k =
    ap (λ m. m == 1) (bit_at_and n 511 (bit k))
    ∙ min_bit (bit_at n (bit k)) (bit_at 511 (bit k)) (bit_at-lt n (bit k)) (bit_at-all k)

pub known_of-and : (n : ℕ) → known_of (bit_and n 511) ≡ known_of n
known_of-and n = filter-same (λ k. bit_at (bit_and n 511) (bit k) == 1) (λ k. bit_at n (bit k) == 1) (bit_of-and n)

bit_there : (b m : ℕ) → b < 2 → 0 < m → not (nat_eq (b * m) 0) ≡ (b == 1)
bit_there zero m small some = rw zero-mul refl
bit_there (suc zero) m small some = rw one-mul (grind (arith, nat_tests))
bit_there (suc (suc b)) m small some = absurd (omega arith)

-- the test of a bit is whether its vocabulary is there
pub has_known-bit : (n : ℕ) (k : Known) → not (nat_eq (bit_and n (2 ^ bit k)) 0) ≡ has_known (known_of n) k
has_known-bit n k =
    ap (λ m. not (nat_eq m 0)) (and_pow n (bit k))
    ∙ bit_there (bit_at n (bit k)) (2 ^ bit k) (bit_at-lt n (bit k)) (some_bit k)
    ∙ sym (has_known-filter (λ l. bit_at n (bit l) == 1) k)
  where
    some_bit : (k : Known) → 0 < 2 ^ bit k
    some_bit Core = lit< tt
    some_bit Applicator = lit< tt
    some_bit Unevaluated = lit< tt
    some_bit Validation = lit< tt
    some_bit Metadata = lit< tt
    some_bit Format = lit< tt
    some_bit FormatAnnotation = lit< tt
    some_bit Content = lit< tt
    some_bit FormatAssertion = lit< tt

-- the bits of vocabularies are nine
pub mask-lt : (v : Vocabulary) → mask v < 512
mask-lt (Standard Core) = lit< tt
mask-lt (Standard Applicator) = lit< tt
mask-lt (Standard Unevaluated) = lit< tt
mask-lt (Standard Validation) = lit< tt
mask-lt (Standard Metadata) = lit< tt
mask-lt (Standard Format) = lit< tt
mask-lt (Standard FormatAnnotation) = lit< tt
mask-lt (Standard Content) = lit< tt
mask-lt (Standard FormatAssertion) = lit< tt
mask-lt (Custom uri) = lit< tt

same_bits : (a b : ℕ) → a < 2 → b < 2 → (a == 1) ≡ (b == 1) → a ≡ b
same_bits zero zero small less e = refl
same_bits zero (suc zero) small less e = cc
same_bits (suc zero) zero small less e = cc
same_bits (suc zero) (suc zero) small less e = refl
same_bits (suc (suc a)) b small less e = absurd (omega arith)
same_bits a (suc (suc b)) small less e = absurd (omega arith)

pub same_lists : (js ks : List Known) → pointwise known_eq js ks ≡ true → js ≡ ks
same_lists [] [] e = refl
same_lists [] (k ∷ ks) e = absurd (false≢true e)
same_lists (j ∷ js) [] e = absurd (false≢true e)
same_lists (j ∷ js) (k ∷ ks) e =
    let parts = and_parts (known_eq j k) (pointwise known_eq js ks) e in
    ap (λ l. l ∷ js) (known_eq-is j k parts.0) ∙ ap (λ ls. k ∷ ls) (same_lists js ks parts.1)

-- the bits of the same vocabularies are the same number
pub known_of-injective : (a b : ℕ) → a < 2 ^ 9 → b < 2 ^ 9 → pointwise known_eq (known_of a) (known_of b) ≡ true → a ≡ b
known_of-injective a b small less e = same_from_bits_below 9 a b small less each
  where
    bit_of : (k : Known) → bit_at a (bit k) ≡ bit_at b (bit k)
    bit_of k =
        same_bits (bit_at a (bit k)) (bit_at b (bit k)) (bit_at-lt a (bit k)) (bit_at-lt b (bit k))
        (sym (has_known-filter (λ l. bit_at a (bit l) == 1) k) ∙ ap (λ ks. has_known ks k) (same_lists (known_of a) (known_of b) e) ∙ has_known-filter (λ l. bit_at b (bit l) == 1) k)

    each : (i : ℕ) → i < 9 → bit_at a i ≡ bit_at b i
    each zero below = bit_of Core
    each (suc zero) below = bit_of Applicator
    each (suc (suc zero)) below = bit_of Unevaluated
    each (suc (suc (suc zero))) below = bit_of Validation
    each (suc (suc (suc (suc zero)))) below = bit_of Metadata
    each (suc (suc (suc (suc (suc zero))))) below = bit_of Format
    each (suc (suc (suc (suc (suc (suc zero)))))) below = bit_of FormatAnnotation
    each (suc (suc (suc (suc (suc (suc (suc zero))))))) below = bit_of Content
    each (suc (suc (suc (suc (suc (suc (suc (suc zero)))))))) below = bit_of FormatAssertion
    each (suc (suc (suc (suc (suc (suc (suc (suc (suc i))))))))) below = absurd (omega arith)

-- sets of the same known vocabularies are equal where their URIs are
pub set_eq-same : (s t : VocabularySet) → s.standard ≡ t.standard → set_eq s t ≡ pointwise bytes_eq s.customs t.customs
set_eq-same s t e = rw e (rw ((lists_equiv known_equivalence).refl t.standard) refl)

-- sets of other bits are not equal
pub set_eq-other : (a b : ℕ) (uris others : List (List ℕ)) → a < 2 ^ 9 → b < 2 ^ 9 → (a ≡ b → ⊥)
    → set_eq (record { standard = known_of a; customs = uris }) (record { standard = known_of b; customs = others }) ≡ false
set_eq-other a b uris others small less other =
    elim (pointwise known_eq (known_of a) (known_of b)) as (λ t. pointwise known_eq (known_of a) (known_of b) ≡ t → (t && pointwise bytes_eq uris others) ≡ false) [
      | true ↦ λ e. absurd (other (known_of-injective a b small less e))
      | false ↦ λ e. refl
    ] refl
