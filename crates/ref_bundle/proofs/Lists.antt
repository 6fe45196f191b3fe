-- The beginnings of lists, as loops leave them.
use Rattle.std.proofs.Common.{◌≡◌, ℕ, zero, suc, ◌+◌, ◌<◌, ◌≤◌, List, [], ◌∷◌, ◌++◌, map, flat_map, take, length, get_or, slice_get, Option, None, Some, option_copied, Bor, refl, sym, ap, subst, ◌∙◌, append-nil, arith}
use Rattle.std.specs.Slice.{IsItemAt}
use Rattle.std.specs.List.{AllByRecursion}
use Rattle.std.proofs.lemmas.Option.{slice_get_past, slice_get_read}
use Rattle.std.proofs.lemmas.List.{take_all, take_more, map-append}
use Rattle.std.proofs.lemmas.List.Concat.{flat_map-append}

-- with one more
pub taken_more : {X Y : Type 0} (v : X → Y) (xs : List X) (i : ℕ) (x : X) → i < length xs → x ≡ get_or xs i x → map v (take (i + 1) xs) ≡ map v (take i xs) ++ v x ∷ []
taken_more v xs i x within is =
    ap (map v) (take_more xs i x within) ∙ map-append v (take i xs) (get_or xs i x ∷ []) ∙ ap (λ y. map v (take i xs) ++ v y ∷ []) (sym is)

-- what is made of them, with one more
pub joined_more : {X Y A : Type 0} (f : Y → List A) (v : X → Y) (xs : List X) (i : ℕ) (x : X) → i < length xs → x ≡ get_or xs i x
    → flat_map f (map v (take (i + 1) xs)) ≡ flat_map f (map v (take i xs)) ++ f (v x)
joined_more f v xs i x within is =
    ap (flat_map f) (taken_more v xs i x within is) ∙ flat_map-append f (map v (take i xs)) (v x ∷ [])
    ∙ ap (λ l. flat_map f (map v (take i xs)) ++ l) (append-nil (f (v x)))

pub taken_all : {X Y : Type 0} (v : X → Y) (xs : List X) (i : ℕ) → length xs ≤ i → map v (take i xs) ≡ map v xs
taken_all v xs i all = ap (map v) (take_all i xs all)

all_here : {X : Type 0} (P : X → Type 0) (xs : List X) (i : ℕ) (d : X) → AllByRecursion P xs → i < length xs → P (get_or xs i d)
all_here P [] i d all within = absurd (omega (arith, within))
all_here P (x ∷ xs) zero d all within = all.0
all_here P (x ∷ xs) (suc i) d all within = all_here P xs i d all.1 (omega (arith, within))

-- what holds of each of a list holds of the one at a place
pub all_at : {X : Type 0} (P : X → Type 0) (xs : List X) (i : ℕ) (x : X) → AllByRecursion P xs → i < length xs → x ≡ get_or xs i x → P x
all_at P xs i x all within is = subst P (sym is) (all_here P xs i x all within)

-- an element that is lent
pub got : {A : Type 0} (xs : List A) (i : ℕ) (r : Option (Bor A)) → IsItemAt xs i r → option_copied r ≡ slice_get xs i
got xs i None (is, lent, within, past, more) = sym (slice_get_past xs i past)
got xs i (Some b) (is, lent, within, there, more) = sym (slice_get_read xs (length xs) i b.now refl there.0 lent)
