-- What a list of documents is after another was put into it or taken out.
use Rattle.std.proofs.Common.{◌≡◌, ℕ, ◌-◌, length, length-drop, suc, List, [], ◌∷◌, ◌++◌, ◌∙◌, map, take, drop, ap, sym}
use Rattle.std.specs.List.{insert, remove}
use Rattle.std.proofs.lemmas.List.{map-append, take-map, drop-map}
use Rattle.std.proofs.Math.Seq.{take-length}

pub mapped_take : {X Y : Type 0} (f : X → Y) (n : ℕ) (xs : List X) → map f (take n xs) ≡ take n (map f xs)
mapped_take f n xs = sym (take-map f n xs)

pub mapped_drop : {X Y : Type 0} (f : X → Y) (n : ℕ) (xs : List X) → map f (drop n xs) ≡ drop n (map f xs)
mapped_drop f n xs = sym (drop-map f n xs)

pub mapped_push : {X Y : Type 0} (f : X → Y) (xs : List X) (x : X) → map f (xs ++ x ∷ []) ≡ map f xs ++ f x ∷ []
mapped_push f xs x = map-append f xs (x ∷ [])

pub mapped_insert : {X Y : Type 0} (f : X → Y) (xs : List X) (i : ℕ) (x : X) → map f (insert xs i x) ≡ insert (map f xs) i (f x)
mapped_insert f xs i x =
    map-append f (take i xs) (x ∷ drop i xs)
    ∙ (ap (λ l. l ++ f x ∷ map f (drop i xs)) (mapped_take f i xs) ∙ ap (λ l. take i (map f xs) ++ f x ∷ l) (mapped_drop f i xs))

pub mapped_remove : {X Y : Type 0} (f : X → Y) (xs : List X) (i : ℕ) → map f (remove xs i) ≡ remove (map f xs) i
mapped_remove f xs i =
    map-append f (take i xs) (drop (suc i) xs)
    ∙ (ap (λ l. l ++ map f (drop (suc i) xs)) (mapped_take f i xs) ∙ ap (λ l. take i (map f xs) ++ l) (mapped_drop f (suc i) xs))

pub mapped_rest : {X Y : Type 0} (f : X → Y) (n : ℕ) (xs : List X) → map f (take (length xs - n) (drop n xs)) ≡ drop n (map f xs)
mapped_rest f n xs =
    ap (λ k. map f (take k (drop n xs))) (sym (length-drop n xs)) ∙ (ap (map f) (take-length (drop n xs)) ∙ mapped_drop f n xs)
