-- The first of a list that passes a test.
use Rattle.std.proofs.Common.{◌≡◌, ℕ, zero, suc, ◌+◌, ◌<◌, Bool, true, false, cond, true≢false, List, [], ◌∷◌, ◌++◌, map, take, length, get_or, Option, Some, None, option_map, refl, ap, sym, ◌∙◌, arith}
use Rattle.std.specs.List.{find}
use Rattle.std.specs.Option.{option_or}
use Rattle.std.proofs.lemmas.List.Folds.{find-append}

passed : {B : Type 0} (b : Bool) (x : B) (o : Option B) → cond b (Some x) o ≡ None → b ≡ false
passed true x o is = absurd (cc)
passed false x o is = refl

rest : {B : Type 0} (b : Bool) (x : B) (o : Option B) → cond b (Some x) o ≡ None → o ≡ None
rest true x o is = absurd (cc)
rest false x o is = is

-- at an element that passes, where none before it does
pub found_at : {A B : Type 0} (v : A → B) (t : B → Bool) (xs : List A) (i : ℕ) (d : A) → i < length xs → find t (map v (take i xs)) ≡ None → t (v (get_or xs i d)) ≡ true → find t (map v xs) ≡ Some (v (get_or xs i d))
found_at v t [] i d within none passes = absurd (omega (arith, within))
found_at v t (y ∷ xs) zero d within none passes = ap (λ b. cond b (Some (v y)) (find t (map v xs))) passes
found_at v t (y ∷ xs) (suc i) d within none passes =
    ap (λ b. cond b (Some (v y)) (find t (map v xs))) (passed (t (v y)) (v y) (find t (map v (take i xs))) none)
    ∙ found_at v t xs i d (omega (arith, within)) (rest (t (v y)) (v y) (find t (map v (take i xs))) none) passes

-- past one that doesn't
pub none_past : {A B : Type 0} (v : A → B) (t : B → Bool) (xs : List A) (i : ℕ) (d : A) → i < length xs → find t (map v (take i xs)) ≡ None → t (v (get_or xs i d)) ≡ false → find t (map v (take (suc i) xs)) ≡ None
none_past v t [] i d within none fails = absurd (omega (arith, within))
none_past v t (y ∷ xs) zero d within none fails = ap (λ b. cond b (Some (v y)) None) fails
none_past v t (y ∷ xs) (suc i) d within none fails =
    ap (λ b. cond b (Some (v y)) (find t (map v (take (suc i) xs)))) (passed (t (v y)) (v y) (find t (map v (take i xs))) none)
    ∙ none_past v t xs i d (omega (arith, within)) (rest (t (v y)) (v y) (find t (map v (take i xs))) none) fails

-- in joined lists
front : {B C : Type 0} (f : B → C) (a b : Option B) (c : C) → Some c ≡ option_map f a → Some c ≡ option_map f (option_or a b)
front f None b c is = absurd (cc)
front f (Some x) b c is = is

back : {B C : Type 0} (f : B → C) (a b : Option B) → None ≡ option_map f a → option_map f b ≡ option_map f (option_or a b)
back f None b is = refl
back f (Some x) b is = absurd (cc)

pub found_front : {B C : Type 0} (f : B → C) (t : B → Bool) (xs ys : List B) (c : C) → Some c ≡ option_map f (find t xs) → Some c ≡ option_map f (find t (xs ++ ys))
found_front f t xs ys c is = front f (find t xs) (find t ys) c is ∙ ap (option_map f) (sym (find-append t xs ys))

pub found_back : {B C : Type 0} (f : B → C) (t : B → Bool) (xs ys : List B) → None ≡ option_map f (find t xs) → option_map f (find t ys) ≡ option_map f (find t (xs ++ ys))
found_back f t xs ys is = back f (find t xs) (find t ys) is ∙ ap (option_map f) (sym (find-append t xs ys))
