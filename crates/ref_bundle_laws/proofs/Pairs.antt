-- Two lists that are compared part by part.
use Rattle.std.proofs.Common.{◌≡◌, ℕ, zero, suc, ◌+◌, ◌<◌, ◌≤◌, Bool, true, false, ◌&&◌, List, [], ◌∷◌, map, length, drop, get_or, refl, ap, sym, ◌∙◌, arith}
use Rattle.std.specs.Cmp.Lexicographic.{pointwise}

drop_one : {X : Type 0} (xs : List X) (i : ℕ) (x : X) → i < length xs → x ≡ get_or xs i x → drop i xs ≡ x ∷ drop (i + 1) xs
drop_one [] i x within is = absurd (omega (arith, within))
drop_one (y ∷ xs) zero x within is = ap (λ z. z ∷ xs) (sym is)
drop_one (y ∷ xs) (suc i) x within is =
    let e : suc i + 1 ≡ suc (i + 1) = omega arith in
    drop_one xs i x (omega (arith, within)) is ∙ ap (λ k. x ∷ drop k (y ∷ xs)) (sym e)

pub pairs_step : {X Y : Type 0} (E : Y → Y → Bool) (f : X → Y) (xs ys : List X) (i : ℕ) (x y : X) → i < length xs → x ≡ get_or xs i x → i < length ys → y ≡ get_or ys i y
    → pointwise E (map f (drop i xs)) (map f (drop i ys)) ≡ (E (f x) (f y) && pointwise E (map f (drop (i + 1) xs)) (map f (drop (i + 1) ys)))
pairs_step E f xs ys i x y in_xs is_x in_ys is_y =
    ap (λ l. pointwise E (map f l) (map f (drop i ys))) (drop_one xs i x in_xs is_x) ∙ ap (λ l. pointwise E (map f (x ∷ drop (i + 1) xs)) (map f l)) (drop_one ys i y in_ys is_y)

drop_all : {X : Type 0} (xs : List X) (i : ℕ) → length xs ≤ i → drop i xs ≡ []
drop_all [] zero all = refl
drop_all [] (suc i) all = refl
drop_all (x ∷ xs) zero all = absurd (omega (arith, all))
drop_all (x ∷ xs) (suc i) all = drop_all xs i (omega (arith, all))

pub pairs_end : {X Y : Type 0} (E : Y → Y → Bool) (f : X → Y) (xs ys : List X) (i : ℕ) → length xs ≤ i → length ys ≤ i → pointwise E (map f (drop i xs)) (map f (drop i ys)) ≡ true
pairs_end E f xs ys i in_xs in_ys =
    ap (λ l. pointwise E (map f l) (map f (drop i ys))) (drop_all xs i in_xs) ∙ ap (λ l. pointwise E (map f []) (map f l)) (drop_all ys i in_ys)

long_differ : {Y : Type 0} (E : Y → Y → Bool) (xs ys : List Y) → (length xs ≡ length ys → ⊥) → pointwise E xs ys ≡ false
long_differ E [] [] differ = absurd (differ refl)
long_differ E [] (y ∷ ys) differ = refl
long_differ E (x ∷ xs) [] differ = refl
long_differ E (x ∷ xs) (y ∷ ys) differ = and_false (E x y) _ (long_differ E xs ys (λ same. differ (ap suc same)))
  where
    and_false : (a b : Bool) → b ≡ false → (a && b) ≡ false
    and_false true b is = is
    and_false false b is = refl

map_length : {X Y : Type 0} (f : X → Y) (xs : List X) → length (map f xs) ≡ length xs
map_length f [] = refl
map_length f (x ∷ xs) = ap suc (map_length f xs)

pub mapped_differ : {X Y : Type 0} (E : Y → Y → Bool) (f : X → Y) (xs ys : List X) → (length xs ≡ length ys → ⊥) → pointwise E (map f xs) (map f ys) ≡ false
mapped_differ E f xs ys differ = long_differ E (map f xs) (map f ys) (λ same. differ (sym (map_length f xs) ∙ same ∙ map_length f ys))
