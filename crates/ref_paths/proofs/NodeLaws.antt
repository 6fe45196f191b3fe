-- What a path with one more part is.
use Rattle.std.proofs.Common.{◌≡◌, Bool, true, false, ◌&&◌, List, [], ◌∷◌, ◌++◌, length, take, Option, Some, None, unwrap_or, refl, ap, ◌∙◌, length-append, add-one}
use Rattle.std.specs.List.{last_or}
use Rattle.std.specs.Cmp.Lexicographic.{pointwise}
use Rattle.ref_paths.specs.Path.{Part, Index, last_part, parent_path, part_eq, path_eq}

last_or-push : {X : Type 0} (o : Option X) (xs : List X) (x : X) → last_or o (xs ++ x ∷ []) ≡ Some x
last_or-push o [] x = refl
last_or-push o (y ∷ xs) x = last_or-push (Some y) xs x

pub last_part-push : (path : List Part) (part : Part) → last_part (path ++ part ∷ []) ≡ part
last_part-push path part = ap (λ o. unwrap_or o (Index 0)) (last_or-push None path part)

front-push : {X : Type 0} (xs : List X) (x : X) → take (length xs) (xs ++ x ∷ []) ≡ xs
front-push [] x = refl
front-push (y ∷ xs) x = ap (λ l. y ∷ l) (front-push xs x)

pub parent_path-push : (path : List Part) (part : Part) → parent_path (path ++ part ∷ []) ≡ Some path
parent_path-push [] part = refl
parent_path-push (first ∷ path) part =
    ap (λ n. Some (take n (first ∷ (path ++ part ∷ [])))) (length-append path (part ∷ []) ∙ add-one (length path)) ∙ ap (λ l. Some l) (front-push (first ∷ path) part)

-- ---- equality of lists, from the back

and_assoc : (a b c : Bool) → (a && (b && c)) ≡ ((a && b) && c)
and_assoc true b c = refl
and_assoc false b c = refl

and_true : (a : Bool) → (a && true) ≡ a
and_true true = refl
and_true false = refl

and_false : (a : Bool) → (a && false) ≡ false
and_false true = refl
and_false false = refl

-- a list with more items is another
longer : {X : Type 0} (E : X → X → Bool) (ys : List X) (y : X) → pointwise E [] (ys ++ y ∷ []) ≡ false
longer E [] y = refl
longer E (z ∷ ys) y = refl

longer_left : {X : Type 0} (E : X → X → Bool) (xs : List X) (x : X) → pointwise E (xs ++ x ∷ []) [] ≡ false
longer_left E [] x = refl
longer_left E (z ∷ xs) x = refl

pub pointwise-push_nil : {X : Type 0} (E : X → X → Bool) (xs : List X) (x : X) → pointwise E (xs ++ x ∷ []) [] ≡ false
pointwise-push_nil = longer_left

pub pointwise-nil_push : {X : Type 0} (E : X → X → Bool) (ys : List X) (y : X) → pointwise E [] (ys ++ y ∷ []) ≡ false
pointwise-nil_push = longer

pub pointwise-push : {X : Type 0} (E : X → X → Bool) (xs ys : List X) (x y : X) → pointwise E (xs ++ x ∷ []) (ys ++ y ∷ []) ≡ (pointwise E xs ys && E x y)
pointwise-push E [] [] x y = and_true (E x y)
pointwise-push E [] (z ∷ ys) x y = ap (λ b. E x z && b) (longer E ys y) ∙ and_false (E x z)
pointwise-push E (z ∷ xs) [] x y = ap (λ b. E z y && b) (longer_left E xs x) ∙ and_false (E z y)
pointwise-push E (z ∷ xs) (w ∷ ys) x y = ap (λ b. E z w && b) (pointwise-push E xs ys x y) ∙ and_assoc (E z w) (pointwise E xs ys) (E x y)

pub and_false_right : (a b : Bool) → b ≡ false → (a && b) ≡ false
and_false_right a b e = ap (λ c. a && c) e ∙ and_false a

pub and_true_right : (a b : Bool) → b ≡ true → (a && b) ≡ a
and_true_right a b e = ap (λ c. a && c) e ∙ and_true a

-- paths are compared by their last parts and by what is before them
pub path_eq-push : (left right p q : List Part) (a b : Part) → left ≡ p ++ a ∷ [] → right ≡ q ++ b ∷ [] → path_eq left right ≡ (path_eq p q && part_eq a b)
path_eq-push left right p q a b l r =
    ap (λ x. path_eq x right) l ∙ ap (path_eq (p ++ a ∷ [])) r ∙ pointwise-push part_eq p q a b
