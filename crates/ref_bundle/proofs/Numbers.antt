-- Numbers in lists of numbers.
use Rattle.std.proofs.Common.{◌≡◌, ℕ, zero, suc, ◌+◌, ◌<◌, Bool, true, false, ◌==◌, ◌||◌, ◌&&◌, cond, List, [], ◌∷◌, ◌++◌, map, filter, length, ◌⊎◌, inl, inr, ⊎_elim, refl, ap, sym, subst, arith, true≢false}
use Rattle.std.proofs.lemmas.Bool.{eqb-true, eq-eqb}
use Rattle.std.proofs.lemmas.List.Folds.{list_any-append}
use Rattle.ref_definitions.specs.World.{Document, Layer}
use Rattle.ref_bundle.specs.Needed.{counted_documents, numbers, is_among}

-- a test that is true of one of two
pub or_cases : (a b : Bool) → (a || b) ≡ true → (a ≡ true) ⊎ (b ≡ true)
or_cases true b is = inl refl
or_cases false b is = inr is

pub or_left : (a b : Bool) → a ≡ true → (a || b) ≡ true
or_left true b is = refl
or_left false b is = absurd (true≢false (sym is))

pub or_right : (a b : Bool) → b ≡ true → (a || b) ≡ true
or_right true b is = refl
or_right false b is = is

pub and_left : (a b : Bool) → (a && b) ≡ true → a ≡ true
and_left true b is = refl
and_left false b is = is

pub and_right : (a b : Bool) → (a && b) ≡ true → b ≡ true
and_right true b is = is
and_right false b is = absurd (true≢false (sym is))

pub both : (a b : Bool) → a ≡ true → b ≡ true → (a && b) ≡ true
both true b is also = also
both false b is also = is

-- two tests that are true of each other's are one
pub one_test : (a b : Bool) → (a ≡ true → b ≡ true) → (b ≡ true → a ≡ true) → a ≡ b
one_test true b there back = sym (there refl)
one_test false true there back = back refl
one_test false false there back = refl

-- ---- among

pub among_append : (xs ys : List ℕ) (n : ℕ) → is_among (xs ++ ys) n ≡ (is_among xs n || is_among ys n)
among_append xs ys n = list_any-append (λ m. m == n) xs ys

pub among_last : (xs : List ℕ) (n m : ℕ) → is_among (xs ++ n ∷ []) m ≡ (is_among xs m || (n == m))
among_last [] n m = or_false (n == m)
  where
    or_false : (b : Bool) → (b || false) ≡ b
    or_false true = refl
    or_false false = refl
among_last (x ∷ xs) n m = or_step (x == m) _ _ _ (among_last xs n m)
  where
    or_step : (a b c d : Bool) → b ≡ (c || d) → (a || b) ≡ ((a || c) || d)
    or_step true b c d is = refl
    or_step false b c d is = is

-- ---- the numbers of a layer

among_counted : (k : ℕ) (ds : Layer) (n : ℕ) → n < length ds → is_among (map (λ e. e.0) (counted_documents k ds)) (k + n) ≡ true
among_counted k [] n within = absurd (omega (arith, within))
among_counted k (d ∷ ds) zero within = or_left (k == (k + 0)) _ (eq-eqb k (k + 0) (omega arith))
among_counted k (d ∷ ds) (suc n) within =
    let e : suc k + n ≡ k + suc n = omega arith in
    or_right (k == (k + suc n)) _ (subst (λ m. is_among (map (λ (e : ℕ × Document). e.0) (counted_documents (suc k) ds)) m ≡ true) e (among_counted (suc k) ds n (omega (arith, within))))

pub among_numbers : (layer : Layer) (n : ℕ) → n < length layer → is_among (numbers layer) n ≡ true
among_numbers layer n within =
    let e : 0 + n ≡ n = omega arith in subst (λ m. is_among (numbers layer) m ≡ true) e (among_counted 0 layer n within)

counted_within : (k : ℕ) (ds : Layer) (n : ℕ) → is_among (map (λ e. e.0) (counted_documents k ds)) n ≡ true → n < k + length ds
counted_within k [] n is = absurd (true≢false (sym is))
counted_within k (d ∷ ds) n is =
    ⊎_elim
    (λ here. let same = eqb-true k n here in omega (arith, same))
    (λ later. let rest = counted_within (suc k) ds n later in omega (arith, rest))
    (or_cases (k == n) _ is)

pub within_numbers : (layer : Layer) (n : ℕ) → is_among (numbers layer) n ≡ true → n < length layer
within_numbers layer n is = let within = counted_within 0 layer n is in omega (arith, within)

counted_length : (k : ℕ) (ds : Layer) → length (map (λ e. e.0) (counted_documents k ds)) ≡ length ds
counted_length k [] = refl
counted_length k (d ∷ ds) = ap suc (counted_length (suc k) ds)

pub numbers_length : (layer : Layer) → length (numbers layer) ≡ length layer
numbers_length layer = counted_length 0 layer

-- ---- filtered numbers

by_true : (t c rest found : Bool) → (t ≡ true → true ≡ c) → found ≡ (rest && c) → (t || found) ≡ ((t || rest) && c)
by_true true c rest found same is = same refl
by_true false c rest found same is = is

by_false : (t c rest found : Bool) → (t ≡ true → false ≡ c) → found ≡ (rest && c) → found ≡ ((t || rest) && c)
by_false true true rest found same is = absurd (true≢false (sym (same refl)))
by_false true false true found same is = is
by_false true false false found same is = is
by_false false c rest found same is = is

among_if : (b c : Bool) (x : ℕ) (xs : List ℕ) (n : ℕ) (rest : Bool) → ((x == n) ≡ true → b ≡ c) → is_among xs n ≡ (rest && c)
    → is_among (cond b (x ∷ xs) xs) n ≡ (((x == n) || rest) && c)
among_if true c x xs n rest same is = by_true (x == n) c rest (is_among xs n) same is
among_if false c x xs n rest same is = by_false (x == n) c rest (is_among xs n) same is

-- filtered numbers are those that pass
pub among_filter : (p : ℕ → Bool) (xs : List ℕ) (n : ℕ) → is_among (filter p xs) n ≡ (is_among xs n && p n)
among_filter p [] n = refl
among_filter p (x ∷ xs) n = among_if (p x) (p n) x (filter p xs) n (is_among xs n) (λ is. ap p (eqb-true x n is)) (among_filter p xs n)
