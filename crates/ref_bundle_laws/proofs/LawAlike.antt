-- Lists whose elements are related pair by pair.
use Rattle.std.proofs.Common.{◌≡◌, Bool, true, false, cond, List, [], ◌∷◌, ◌++◌, Option, Some, None, filter, map, refl, sym, subst, ◌∙◌}
use Rattle.std.specs.Bool.{⊤}
use Rattle.std.specs.List.{last_or}
use Rattle.std.specs.Option.{option_or}
use Rattle.ref_definitions.proofs.Last.{last_of_both}

-- related pair by pair, in their order
abbrev pub AreAlike : {X Y : Type 0} → (X → Y → Type 0) → List X → List Y → Type 0
AreAlike R [] [] = ⊤
AreAlike R [] (y ∷ ys) = ⊥
AreAlike R (x ∷ xs) [] = ⊥
AreAlike R (x ∷ xs) (y ∷ ys) = R x y × AreAlike R xs ys

-- both something related, or both nothing
abbrev pub BothAlike : {X Y : Type 0} → (X → Y → Type 0) → Option X → Option Y → Type 0
BothAlike R None None = ⊤
BothAlike R None (Some y) = ⊥
BothAlike R (Some x) None = ⊥
BothAlike R (Some x) (Some y) = R x y

pub alike_append : {X Y : Type 0} (R : X → Y → Type 0) (xs vs : List X) (ys ws : List Y) → AreAlike R xs ys → AreAlike R vs ws → AreAlike R (xs ++ vs) (ys ++ ws)
alike_append R [] vs [] ws first next = next
alike_append R [] vs (y ∷ ys) ws first next = absurd first
alike_append R (x ∷ xs) vs [] ws first next = absurd first
alike_append R (x ∷ xs) vs (y ∷ ys) ws first next = (first.0, alike_append R xs vs ys ws first.1 next)

last_from : {X Y : Type 0} (R : X → Y → Type 0) (o : Option X) (p : Option Y) (xs : List X) (ys : List Y) → BothAlike R o p → AreAlike R xs ys → BothAlike R (last_or o xs) (last_or p ys)
last_from R o p [] [] both each = both
last_from R o p [] (y ∷ ys) both each = absurd each
last_from R o p (x ∷ xs) [] both each = absurd each
last_from R o p (x ∷ xs) (y ∷ ys) both each = last_from R (Some x) (Some y) xs ys each.0 each.1

pub last_alike : {X Y : Type 0} (R : X → Y → Type 0) (xs : List X) (ys : List Y) → AreAlike R xs ys → BothAlike R (last_or None xs) (last_or None ys)
last_alike R xs ys each = last_from R None None xs ys tt each

pub or_alike : {X Y : Type 0} (R : X → Y → Type 0) (a c : Option X) (b d : Option Y) → BothAlike R a b → BothAlike R c d → BothAlike R (option_or a c) (option_or b d)
or_alike R None c None d first next = next
or_alike R None c (Some y) d first next = absurd first
or_alike R (Some x) c None d first next = absurd first
or_alike R (Some x) c (Some y) d first next = first

-- the last of lists that are joined of two with related lasts
pub last_joined : {X Y : Type 0} (R : X → Y → Type 0) (xs vs : List X) (ys ws : List Y)
    → BothAlike R (last_or None xs) (last_or None ys) → BothAlike R (last_or None vs) (last_or None ws) → BothAlike R (last_or None (xs ++ vs)) (last_or None (ys ++ ws))
last_joined R xs vs ys ws front back =
    subst (λ o. BothAlike R o (last_or None (ys ++ ws))) (sym (last_of_both xs vs))
    (subst (λ o. BothAlike R (option_or (last_or None vs) (last_or None xs)) o) (sym (last_of_both ys ws))
    (or_alike R (last_or None vs) (last_or None xs) (last_or None ws) (last_or None ys) back front))

or_itself : {X : Type 0} (o : Option X) → option_or o o ≡ o
or_itself None = refl
or_itself (Some x) = refl

-- the last of a list that is there twice
pub last_twice : {X : Type 0} (xs : List X) → last_or None (xs ++ xs) ≡ last_or None xs
last_twice xs = last_of_both xs xs ∙ or_itself (last_or None xs)

-- what a test keeps, where it says the same of both
kept_alike : {X Y : Type 0} (R : X → Y → Type 0) (a b : Bool) (x : X) (y : Y) (xs : List X) (ys : List Y) → a ≡ b → R x y → AreAlike R xs ys → AreAlike R (cond a (x ∷ xs) xs) (cond b (y ∷ ys) ys)
kept_alike R true true x y xs ys same first next = (first, next)
kept_alike R true false x y xs ys same first next = absurd (let e : true ≡ false = same in cc)
kept_alike R false true x y xs ys same first next = absurd (let e : false ≡ true = same in cc)
kept_alike R false false x y xs ys same first next = next

pub filter_alike : {X Y : Type 0} (R : X → Y → Type 0) (t : X → Bool) (u : Y → Bool) (xs : List X) (ys : List Y) → ((x : X) (y : Y) → R x y → t x ≡ u y) → AreAlike R xs ys → AreAlike R (filter t xs) (filter u ys)
filter_alike R t u [] [] same each = tt
filter_alike R t u [] (y ∷ ys) same each = absurd each
filter_alike R t u (x ∷ xs) [] same each = absurd each
filter_alike R t u (x ∷ xs) (y ∷ ys) same each = kept_alike R (t x) (u y) x y (filter t xs) (filter u ys) (same x y each.0) each.0 (filter_alike R t u xs ys same each.1)

pub map_alike : {X Y Z : Type 0} (R : Y → Z → Type 0) (f : X → Y) (g : X → Z) (xs : List X) → ((x : X) → R (f x) (g x)) → AreAlike R (map f xs) (map g xs)
map_alike R f g [] each = tt
map_alike R f g (x ∷ xs) each = (each x, map_alike R f g xs each)
