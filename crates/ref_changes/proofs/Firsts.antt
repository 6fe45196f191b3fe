-- The first of joined lists.
use Rattle.std.proofs.Common.{◌≡◌, ℕ, zero, suc, ◌+◌, ◌<◌, Bool, true, false, cond, List, [], ◌∷◌, ◌++◌, map, flat_map, take, length, get_or, Option, Some, None, option_map, refl, ap, sym, ◌∙◌, arith}
use Rattle.ref_changes.specs.Changes.{What, first, unless}
use Rattle.ref_changes.proofs.Lists.{joined_more}

-- what comes first is first, and else the first after it
pub first_front : {X : Type 0} (xs ys : List X) (x : X) → Some x ≡ first xs → Some x ≡ first (xs ++ ys)
first_front [] ys x is = cc
first_front (y ∷ xs) ys x is = is

pub first_past : {X : Type 0} (xs ys : List X) → first xs ≡ None → first (xs ++ ys) ≡ first ys
first_past [] ys is = refl
first_past (y ∷ xs) ys is = cc

pub first_mapped : {X Y : Type 0} (f : X → Y) (xs : List X) → first (map f xs) ≡ option_map f (first xs)
first_mapped f [] = refl
first_mapped f (x ∷ xs) = refl

-- what differs unless a test holds
pub held : (b : Bool) (w : What) (more : List What) → b ≡ true → first (unless b w ++ more) ≡ first more
held true w more is = refl
held false w more is = cc

pub not_held : (b : Bool) (w : What) (more : List What) → b ≡ false → Some w ≡ first (unless b w ++ more)
not_held true w more is = cc
not_held false w more is = refl

-- with one more that has none
pub none_more : {X Y A : Type 0} (f : Y → List A) (v : X → Y) (xs : List X) (i : ℕ) (x : X) → i < length xs → x ≡ get_or xs i x
    → first (flat_map f (map v (take i xs))) ≡ None → None ≡ first (f (v x)) → first (flat_map f (map v (take (i + 1) xs))) ≡ None
none_more f v xs i x within is before here =
    ap first (joined_more f v xs i x within is) ∙ first_past (flat_map f (map v (take i xs))) (f (v x)) before ∙ sym here

-- the first of one is the first of all, where those before have none
pub found_here : {X Y A : Type 0} (f : Y → List A) (v : X → Y) (xs : List X) (i : ℕ) (x : X) (a : A) → i < length xs → x ≡ get_or xs i x
    → first (flat_map f (map v (take i xs))) ≡ None → Some a ≡ first (f (v x)) → Some a ≡ first (flat_map f (map v xs))
found_here f v [] i x a within is before here = absurd (omega (arith, within))
found_here f v (y ∷ xs) zero x a within is before here = first_front (f (v y)) (flat_map f (map v xs)) a (here ∙ ap (λ z. first (f (v z))) is)
found_here f v (y ∷ xs) (suc i) x a within is before here =
    let none = nothing (f (v y)) (flat_map f (map v (take i xs))) before in
    found_here f v xs i x a (omega (arith, within)) is (sym (first_past (f (v y)) (flat_map f (map v (take i xs))) none) ∙ before) here
    ∙ sym (first_past (f (v y)) (flat_map f (map v xs)) none)
  where
    nothing : {A : Type 0} (xs ys : List A) → first (xs ++ ys) ≡ None → first xs ≡ None
    nothing [] ys is = refl
    nothing (x ∷ xs) ys is = cc
