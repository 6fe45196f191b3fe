-- A list whose elements are changed one after another, each by the same function.
use Rattle.std.proofs.Common.{◌≡◌, ◌∙◌, ℕ, zero, suc, ◌+◌, ◌<◌, List, [], ◌∷◌, ◌++◌, map, take, drop, length, refl, ap, arith, slice_set, slice_index_or}

unchanged_from : {A : Type 0} (f : A → A) (ys : List A) (i : ℕ) (d : A) → slice_index_or (map f (take i ys) ++ drop i ys) i d ≡ slice_index_or ys i d
unchanged_from f [] zero d = refl
unchanged_from f [] (suc i) d = refl
unchanged_from f (y ∷ ys) zero d = refl
unchanged_from f (y ∷ ys) (suc i) d = unchanged_from f ys i d

changed_at : {A : Type 0} (f : A → A) (ys : List A) (i : ℕ) (d : A) → i < length ys → slice_set (map f (take i ys) ++ drop i ys) i (f (slice_index_or ys i d)) ≡ map f (take (suc i) ys) ++ drop (suc i) ys
changed_at f [] i d within = absurd (omega arith)
changed_at f (y ∷ ys) zero d within = refl
changed_at f (y ∷ ys) (suc i) d within = ap (λ l. f y ∷ l) (changed_at f ys i d (omega arith))

-- the next is still as it was
pub next_unchanged : {A : Type 0} (f : A → A) (xs ys : List A) (i : ℕ) (d : A) → xs ≡ map f (take i ys) ++ drop i ys → slice_index_or xs i d ≡ slice_index_or ys i d
next_unchanged f xs ys i d is = ap (λ l. slice_index_or l i d) is ∙ unchanged_from f ys i d

-- one more is changed, where those before it were
pub changed_next : {A : Type 0} (f : A → A) (xs ys : List A) (i : ℕ) (d : A) → i < length ys → xs ≡ map f (take i ys) ++ drop i ys → slice_set xs i (f (slice_index_or xs i d)) ≡ map f (take (i + 1) ys) ++ drop (i + 1) ys
changed_next f xs ys i d within is =
    let more : suc i ≡ i + 1 = omega arith in
    ap (λ l. slice_set l i (f (slice_index_or l i d))) is
    ∙ ap (λ e. slice_set (map f (take i ys) ++ drop i ys) i (f e)) (unchanged_from f ys i d)
    ∙ changed_at f ys i d within
    ∙ ap (λ n. map f (take n ys) ++ drop n ys) more

pub length_kept : {A : Type 0} (f : A → A) (ys : List A) (i : ℕ) → length (map f (take i ys) ++ drop i ys) ≡ length ys
length_kept f [] zero = refl
length_kept f [] (suc i) = refl
length_kept f (y ∷ ys) zero = refl
length_kept f (y ∷ ys) (suc i) = ap suc (length_kept f ys i)

-- an element is changed, and not what a function gives of it
pub unchanged_map : {A B : Type 0} (f : A → B) (xs : List A) (i : ℕ) (d x : A) → f x ≡ f (slice_index_or xs i d) → map f (slice_set xs i x) ≡ map f xs
unchanged_map f [] i d x same = refl
unchanged_map f (y ∷ ys) zero d x same = ap (λ b. b ∷ map f ys) same
unchanged_map f (y ∷ ys) (suc i) d x same = ap (λ l. f y ∷ l) (unchanged_map f ys i d x same)
