-- The beginnings of lists, as loops leave them.
use Rattle.std.proofs.Common.{◌≡◌, ℕ, zero, suc, ◌+◌, ◌-◌, ◌<◌, ◌≤◌, List, [], ◌∷◌, ◌++◌, map, flat_map, take, drop, length, get_or, slice_get, Option, None, Some, option_copied, Bor, refl, sym, ap, ◌∙◌, append-nil, add-one, drop-cons, arith}
use Rattle.std.specs.Slice.{IsItemAt}
use Rattle.std.specs.List.{slice_range, enumerate_from}
use Rattle.std.proofs.lemmas.Option.{slice_get_past, slice_get_read}
use Rattle.std.proofs.lemmas.List.{take_all, take_more, length-map, length-take-le, map-append}
use Rattle.std.proofs.lemmas.List.Concat.{flat_map-append}

-- with one more
pub taken_more : {X Y : Type 0} (v : X → Y) (xs : List X) (i : ℕ) (x : X) → i < length xs → x ≡ get_or xs i x → map v (take (i + 1) xs) ≡ map v (take i xs) ++ v x ∷ []
taken_more v xs i x within is =
    ap (map v) (take_more xs i x within) ∙ map-append v (take i xs) (get_or xs i x ∷ []) ∙ ap (λ y. map v (take i xs) ++ v y ∷ []) (sym is)

pub taken_more_at : {X Y : Type 0} (v : X → Y) (xs : List X) (i : ℕ) (d : X) → i < length xs → map v (take (i + 1) xs) ≡ map v (take i xs) ++ v (get_or xs i d) ∷ []
taken_more_at v xs i d within = ap (map v) (take_more xs i d within) ∙ map-append v (take i xs) (get_or xs i d ∷ [])

-- what is made of them, with one more
pub joined_more : {X Y A : Type 0} (f : Y → List A) (v : X → Y) (xs : List X) (i : ℕ) (x : X) → i < length xs → x ≡ get_or xs i x
    → flat_map f (map v (take (i + 1) xs)) ≡ flat_map f (map v (take i xs)) ++ f (v x)
joined_more f v xs i x within is =
    ap (flat_map f) (taken_more v xs i x within is) ∙ flat_map-append f (map v (take i xs)) (v x ∷ [])
    ∙ ap (λ l. flat_map f (map v (take i xs)) ++ l) (append-nil (f (v x)))

pub taken_all : {X Y : Type 0} (v : X → Y) (xs : List X) (i : ℕ) → length xs ≤ i → map v (take i xs) ≡ map v xs
taken_all v xs i all = ap (map v) (take_all i xs all)

-- an element that is lent
pub got : {A : Type 0} (xs : List A) (i : ℕ) (r : Option (Bor A)) → IsItemAt xs i r → option_copied r ≡ slice_get xs i
got xs i None (is, lent, within, past, more) = sym (slice_get_past xs i past)
got xs i (Some b) (is, lent, within, there, more) = sym (slice_get_read xs (length xs) i b.now refl there.0 lent)

-- ---- one element

pub dropped : {X : Type 0} (xs : List X) (i : ℕ) (d : X) → i < length xs → drop i xs ≡ get_or xs i d ∷ drop (i + 1) xs
dropped xs i d within = drop-cons xs i d within ∙ ap (λ n. get_or xs i d ∷ drop n xs) (sym (add-one i))

pub one_of : {X : Type 0} (xs : List X) (i : ℕ) (d : X) → i < length xs → slice_range xs i (i + 1) ≡ get_or xs i d ∷ []
one_of xs i d within =
    let one : i + 1 - i ≡ 1 = omega arith in
    ap (λ n. take n (drop i xs)) one ∙ ap (take 1) (dropped xs i d within)

-- ---- numbers

enumerate-push : {X : Type 0} (n : ℕ) (xs : List X) (y : X) → enumerate_from n (xs ++ y ∷ []) ≡ enumerate_from n xs ++ (n + length xs, y) ∷ []
enumerate-push n [] y = let e : n ≡ n + 0 = omega arith in ap (λ k. (k, y) ∷ []) e
enumerate-push n (x ∷ xs) y =
    let e : (n + 1) + length xs ≡ n + suc (length xs) = omega arith in
    ap (λ l. (n, x) ∷ l) (enumerate-push (n + 1) xs y ∙ ap (λ k. enumerate_from (n + 1) xs ++ (k, y) ∷ []) e)

-- the numbered beginning of a list, with one more
pub numbered_more : {X Y : Type 0} (v : X → Y) (xs : List X) (i : ℕ) (x : X) → i < length xs → x ≡ get_or xs i x
    → enumerate_from 0 (map v (take (i + 1) xs)) ≡ enumerate_from 0 (map v (take i xs)) ++ (i, v x) ∷ []
numbered_more v xs i x within is =
    let long : 0 + length (map v (take i xs)) ≡ i = omega (arith, length-map (take i xs) v, length-take-le i xs (omega (arith, within))) in
    ap (enumerate_from 0) (taken_more v xs i x within is) ∙ enumerate-push 0 (map v (take i xs)) (v x)
    ∙ ap (λ k. enumerate_from 0 (map v (take i xs)) ++ (k, v x) ∷ []) long
