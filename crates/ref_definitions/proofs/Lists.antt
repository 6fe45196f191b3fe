-- Lists: their elements, and what holds of each of them.
use Rattle.std.proofs.Common.{◌≡◌, ℕ, zero, suc, List, [], ◌∷◌, ◌++◌, map, flat_map, Option, Some, IfSome, ◌⊎◌, inl, inr, ⊎_elim, refl, sym, ap, subst, arith}
use Rattle.std.specs.List.{Contains, AllByRecursion, last_or}
use Rattle.std.proofs.lemmas.List.Elements.{All-contains, All-from_recursion, Contains-append_left, Contains-append_right, Contains-append_cases}
use Rattle.ref_draft.proofs.Lists.{all_append}

-- ---- elements

-- an empty list has no element
pub none_in_nothing : {X : Type 0} (x : X) → ¬ (Contains [] x)
none_in_nothing x there = omega (arith, there.1)

-- the first of a list is in it
pub at_first : {X : Type 0} (x : X) (xs : List X) → Contains (x ∷ xs) x
at_first x xs = (0, omega arith, refl)

-- what is in a list is in it with one more in front
pub later_in : {X : Type 0} (x : X) (xs : List X) (y : X) → Contains xs y → Contains (x ∷ xs) y
later_in x xs y there = Contains-append_right (x ∷ []) xs y there

-- an element is the first, or one after it
pub first_or_later : {X : Type 0} (x : X) (xs : List X) (y : X) → Contains (x ∷ xs) y → (x ≡ y) ⊎ Contains xs y
first_or_later x xs y (zero, less, is) = inl is
first_or_later x xs y (suc k, less, is) = inr (k, omega (arith, less), is)

-- an element is in the list of what a function makes of each, as the function makes it
pub in_map : {X Y : Type 0} (f : X → Y) (xs : List X) (x : X) → Contains xs x → Contains (map f xs) (f x)
in_map f [] x there = absurd (none_in_nothing x there)
in_map f (y ∷ ys) x there =
    ⊎_elim (λ same. (0, omega arith, ap f same)) (λ later. later_in (f y) (map f ys) (f x) (in_map f ys x later)) (first_or_later y ys x there)

-- what is in such a list is made of an element
pub in_mapped : {X Y : Type 0} (f : X → Y) (xs : List X) (y : Y) → Contains (map f xs) y → (x : X) × Contains xs x × (f x ≡ y)
in_mapped f [] y there = absurd (none_in_nothing y there)
in_mapped f (x ∷ xs) y there =
    ⊎_elim
    (λ here. (x, at_first x xs, here))
    (λ later. let found = in_mapped f xs y later in (found.0, later_in x xs found.0 found.1, found.2))
    (first_or_later (f x) (map f xs) y there)

-- what is in one of several lists is in all of them joined
pub in_joined : {X A : Type 0} (f : X → List A) (xs : List X) (x : X) (y : A) → Contains xs x → Contains (f x) y → Contains (flat_map f xs) y
in_joined f [] x y there at = absurd (none_in_nothing x there)
in_joined f (z ∷ xs) x y there at =
    ⊎_elim
    (λ same. Contains-append_left (f z) (flat_map f xs) y (subst (λ w. Contains (f w) y) (sym same) at))
    (λ later. Contains-append_right (f z) (flat_map f xs) y (in_joined f xs x y later at))
    (first_or_later z xs x there)

-- what is in lists joined is in one of them
pub in_one_of : {X A : Type 0} (f : X → List A) (xs : List X) (y : A) → Contains (flat_map f xs) y → (x : X) × Contains xs x × Contains (f x) y
in_one_of f [] y there = absurd (none_in_nothing y there)
in_one_of f (x ∷ xs) y there =
    ⊎_elim
    (λ here. (x, at_first x xs, here))
    (λ later. let found = in_one_of f xs y later in (found.0, later_in x xs found.0 found.1, found.2))
    (Contains-append_cases (f x) (flat_map f xs) y there)

-- ---- what holds of each

-- what holds of each of a list holds of what is in it
pub each_in : {X : Type 0} (P : X → Type 0) (xs : List X) (x : X) → AllByRecursion P xs → Contains xs x → P x
each_in P xs x each there = All-contains P xs x (All-from_recursion P xs each) there

-- and what holds of all that is in a list holds of each
pub all_of : {X : Type 0} (P : X → Type 0) (xs : List X) → ((x : X) → Contains xs x → P x) → AllByRecursion P xs
all_of P [] each = tt
all_of P (x ∷ xs) each = (each x (at_first x xs), all_of P xs (λ y there. each y (later_in x xs y there)))

-- of two lists joined, it holds of each of the first
pub all_left : {X : Type 0} (P : X → Type 0) (xs ys : List X) → AllByRecursion P (xs ++ ys) → AllByRecursion P xs
all_left P [] ys each = tt
all_left P (x ∷ xs) ys each = (each.0, all_left P xs ys each.1)

-- and of each of the second
pub all_right : {X : Type 0} (P : X → Type 0) (xs ys : List X) → AllByRecursion P (xs ++ ys) → AllByRecursion P ys
all_right P [] ys each = each
all_right P (x ∷ xs) ys each = all_right P xs ys each.1

-- where it holds of each of the list that an element gives, it does so of these lists joined
pub all_joined : {A B : Type 0} (P : A → Type 0) (Q : B → Type 0) (f : A → List B) (xs : List A) → ((x : A) → P x → AllByRecursion Q (f x)) → AllByRecursion P xs → AllByRecursion Q (flat_map f xs)
all_joined P Q f [] next each = tt
all_joined P Q f (x ∷ xs) next each = all_append Q (f x) (flat_map f xs) (next x each.0) (all_joined P Q f xs next each.1)

-- it holds of the last of a list, or of what there is instead
pub last_of_all : {A : Type 0} (P : A → Type 0) (o : Option A) (xs : List A) → IfSome o P → AllByRecursion P xs → IfSome (last_or o xs) P
last_of_all P o [] h each = h
last_of_all P o (x ∷ xs) h each = last_of_all P (Some x) xs each.0 each.1
