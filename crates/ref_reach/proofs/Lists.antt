-- Lists that are numbered.
use Rattle.std.proofs.Common.{◌≡◌, ℕ, suc, ◌+◌, ◌<◌, ◌≤◌, List, [], ◌∷◌, ◌++◌, map, flat_map, take, length, get_or, sym, ap, ◌∙◌, append-nil, arith}
use Rattle.std.specs.List.{enumerate_from}
use Rattle.std.proofs.lemmas.List.{take_all, take_more, length-take-le, length-map, map-append}
use Rattle.std.proofs.lemmas.List.Concat.{flat_map-append}

enumerate-push : {X : Type 0} (n : ℕ) (xs : List X) (y : X) → enumerate_from n (xs ++ y ∷ []) ≡ enumerate_from n xs ++ (n + length xs, y) ∷ []
enumerate-push n [] y = let e : n ≡ n + 0 = omega arith in ap (λ k. (k, y) ∷ []) e
enumerate-push n (x ∷ xs) y =
    let e : (n + 1) + length xs ≡ n + suc (length xs) = omega arith in
    ap (λ l. (n, x) ∷ l) (enumerate-push (n + 1) xs y ∙ ap (λ k. enumerate_from (n + 1) xs ++ (k, y) ∷ []) e)

pub taken_more : {X Y : Type 0} (v : X → Y) (xs : List X) (i : ℕ) (d : X) → i < length xs → map v (take (i + 1) xs) ≡ map v (take i xs) ++ v (get_or xs i d) ∷ []
taken_more v xs i d within = ap (map v) (take_more xs i d within) ∙ map-append v (take i xs) (get_or xs i d ∷ [])

pub numbered_more : {X Y : Type 0} (v : X → Y) (xs : List X) (i : ℕ) (d : X) → i < length xs
    → enumerate_from 0 (map v (take (i + 1) xs)) ≡ enumerate_from 0 (map v (take i xs)) ++ (i, v (get_or xs i d)) ∷ []
numbered_more v xs i d within =
    let long : 0 + length (map v (take i xs)) ≡ i = omega (arith, length-map (take i xs) v, length-take-le i xs (omega (arith, within))) in
    ap (enumerate_from 0) (taken_more v xs i d within) ∙ enumerate-push 0 (map v (take i xs)) (v (get_or xs i d))
    ∙ ap (λ k. enumerate_from 0 (map v (take i xs)) ++ (k, v (get_or xs i d)) ∷ []) long

-- what is made of the numbered beginning of a list, with one more
pub joined_numbered : {X Y A : Type 0} (f : ℕ × Y → List A) (v : X → Y) (xs : List X) (i : ℕ) (d : X) → i < length xs
    → flat_map f (enumerate_from 0 (map v (take (i + 1) xs))) ≡ flat_map f (enumerate_from 0 (map v (take i xs))) ++ f (i, v (get_or xs i d))
joined_numbered f v xs i d within =
    let before = enumerate_from 0 (map v (take i xs)) in
    ap (flat_map f) (numbered_more v xs i d within) ∙ flat_map-append f before ((i, v (get_or xs i d)) ∷ [])
    ∙ ap (λ l. flat_map f before ++ l) (append-nil (f (i, v (get_or xs i d))))

-- of the beginning of a list, with one more
pub joined_more : {X Y A : Type 0} (f : Y → List A) (v : X → Y) (xs : List X) (i : ℕ) (d : X) → i < length xs
    → flat_map f (map v (take (i + 1) xs)) ≡ flat_map f (map v (take i xs)) ++ f (v (get_or xs i d))
joined_more f v xs i d within =
    ap (flat_map f) (taken_more v xs i d within) ∙ flat_map-append f (map v (take i xs)) (v (get_or xs i d) ∷ [])
    ∙ ap (λ l. flat_map f (map v (take i xs)) ++ l) (append-nil (f (v (get_or xs i d))))

pub joined_step : {X Y A : Type 0} (f : ℕ × Y → List A) (v : X → Y) (xs : List X) (i : ℕ) (x : X) → i < length xs → x ≡ get_or xs i x
    → flat_map f (enumerate_from 0 (map v (take (i + 1) xs))) ≡ flat_map f (enumerate_from 0 (map v (take i xs))) ++ f (i, v x)
joined_step f v xs i x within is =
    joined_numbered f v xs i x within ∙ ap (λ y. flat_map f (enumerate_from 0 (map v (take i xs))) ++ f (i, v y)) (sym is)

pub joined_end : {X Y A : Type 0} (f : ℕ × Y → List A) (v : X → Y) (xs : List X) (i : ℕ) → length xs ≤ i
    → flat_map f (enumerate_from 0 (map v (take i xs))) ≡ flat_map f (enumerate_from 0 (map v xs))
joined_end f v xs i all = ap (λ l. flat_map f (enumerate_from 0 (map v l))) (take_all i xs all)
