-- Lists that grow.
use Rattle.std.proofs.Common.{◌≡◌, cond, if◌then◌else◌, true, false, refl, ℕ, suc, ◌+◌, ◌<◌, Bool, List, [], ◌∷◌, ◌++◌, map, flat_map, filter, take, length, get_or, ap, sym, ◌∙◌, append-nil, append_assoc, arith}
use Rattle.std.specs.List.{enumerate_from}
use Rattle.std.proofs.lemmas.List.{take_more, length-take-le, length-map, map-append}
use Rattle.std.proofs.lemmas.List.Elements.{filter-append}
use Rattle.std.proofs.lemmas.List.Concat.{flat_map-append}

enumerate-push : {X : Type 0} (n : ℕ) (xs : List X) (y : X) → enumerate_from n (xs ++ y ∷ []) ≡ enumerate_from n xs ++ (n + length xs, y) ∷ []
enumerate-push n [] y = let e : n ≡ n + 0 = omega arith in ap (λ k. (k, y) ∷ []) e
enumerate-push n (x ∷ xs) y =
    let e : (n + 1) + length xs ≡ n + suc (length xs) = omega arith in
    ap (λ l. (n, x) ∷ l) (enumerate-push (n + 1) xs y ∙ ap (λ k. enumerate_from (n + 1) xs ++ (k, y) ∷ []) e)

taken_more : {X Y : Type 0} (v : X → Y) (xs : List X) (i : ℕ) (d : X) → i < length xs → map v (take (i + 1) xs) ≡ map v (take i xs) ++ v (get_or xs i d) ∷ []
taken_more v xs i d within = ap (map v) (take_more xs i d within) ∙ map-append v (take i xs) (get_or xs i d ∷ [])

-- what is made of those of the beginning of a list of which this holds, with one more
pub kept_more : {X A B : Type 0} (g : A → B) (f : A → Bool) (v : X → A) (xs : List X) (i : ℕ) (d : X) → i < length xs
    → map g (filter f (map v (take (i + 1) xs))) ≡ map g (filter f (map v (take i xs))) ++ map g (filter f (v (get_or xs i d) ∷ []))
kept_more g f v xs i d within =
    ap (λ l. map g (filter f l)) (taken_more v xs i d within)
    ∙ ap (map g) (filter-append f (map v (take i xs)) (v (get_or xs i d) ∷ []))
    ∙ map-append g (filter f (map v (take i xs))) (filter f (v (get_or xs i d) ∷ []))

-- these were added, and then those
pub added : {B : Type 0} (new mid old more last : List B) → new ≡ mid ++ last → mid ≡ old ++ more → new ≡ old ++ (more ++ last)
added new mid old more last n m = n ∙ ap (λ l. l ++ last) m ∙ append_assoc old more last

numbered_more : {X Y : Type 0} (v : X → Y) (xs : List X) (i : ℕ) (d : X) → i < length xs
    → enumerate_from 0 (map v (take (i + 1) xs)) ≡ enumerate_from 0 (map v (take i xs)) ++ (i, v (get_or xs i d)) ∷ []
numbered_more v xs i d within =
    let long : 0 + length (map v (take i xs)) ≡ i = omega (arith, length-map (take i xs) v, length-take-le i xs (omega (arith, within))) in
    ap (enumerate_from 0) (taken_more v xs i d within) ∙ enumerate-push 0 (map v (take i xs)) (v (get_or xs i d))
    ∙ ap (λ k. enumerate_from 0 (map v (take i xs)) ++ (k, v (get_or xs i d)) ∷ []) long

-- what is made of the numbered beginning of a list, with one more
pub joined_numbered : {X Y A : Type 0} (f : ℕ × Y → List A) (v : X → Y) (xs : List X) (i : ℕ) (d : X) → i < length xs
    → flat_map f (enumerate_from 0 (map v (take (i + 1) xs))) ≡ flat_map f (enumerate_from 0 (map v (take i xs))) ++ f (i, v (get_or xs i d))
joined_numbered f v xs i d within =
    let before = enumerate_from 0 (map v (take i xs)) in
    ap (flat_map f) (numbered_more v xs i d within) ∙ flat_map-append f before ((i, v (get_or xs i d)) ∷ [])
    ∙ ap (λ l. flat_map f before ++ l) (append-nil (f (i, v (get_or xs i d))))

pub joined_step : {X Y A : Type 0} (f : ℕ × Y → List A) (v : X → Y) (xs : List X) (i : ℕ) (x : X) → i < length xs → x ≡ get_or xs i x
    → flat_map f (enumerate_from 0 (map v (take (i + 1) xs))) ≡ flat_map f (enumerate_from 0 (map v (take i xs))) ++ f (i, v x)
joined_step f v xs i x within is =
    joined_numbered f v xs i x within ∙ ap (λ y. flat_map f (enumerate_from 0 (map v (take i xs))) ++ f (i, v y)) (sym is)

picked : {Y : Type 0} (b : Bool) (i : ℕ) (y : Y) → map (λ (e : ℕ × Y). e.0) (cond b ((i, y) ∷ []) []) ≡ (if b then i ∷ [] else [])
picked true i y = refl
picked false i y = refl

-- the numbers of those of the beginning of a list of which this holds, with one more
pub numbered_kept : {X Y : Type 0} (p : ℕ × Y → Bool) (v : X → Y) (xs : List X) (i : ℕ) (x : X) → i < length xs → x ≡ get_or xs i x
    → map (λ (e : ℕ × Y). e.0) (filter p (enumerate_from 0 (map v (take (i + 1) xs))))
    ≡ map (λ (e : ℕ × Y). e.0) (filter p (enumerate_from 0 (map v (take i xs)))) ++ (if p (i, v x) then i ∷ [] else [])
numbered_kept {X} {Y} p v xs i x within is =
    let before = enumerate_from 0 (map v (take i xs)) in
    let first = λ (e : ℕ × Y). e.0 in
    ap (λ l. map first (filter p l)) (numbered_more v xs i x within)
    ∙ ap (λ y. map first (filter p (before ++ (i, v y) ∷ []))) (sym is)
    ∙ ap (map first) (filter-append p before ((i, v x) ∷ []))
    ∙ map-append first (filter p before) (filter p ((i, v x) ∷ []))
    ∙ ap (λ l. map first (filter p before) ++ l) (picked (p (i, v x)) i (v x))
