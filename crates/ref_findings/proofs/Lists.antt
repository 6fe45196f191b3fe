-- Lists that are numbered, and first and last entries.
use Rattle.std.proofs.Common.{◌≡◌, ℕ, zero, suc, ◌+◌, ◌<◌, ◌≤◌, Bool, true, false, ◌||◌, cond, List, [], ◌∷◌, ◌++◌, map, flat_map, filter, take, length, get_or, reverse, Option, Some, None, is_some, refl, sym, ap, subst, ◌∙◌, append-nil, arith}
use Rattle.std.specs.List.{find, last_or, list_any, enumerate_from, AllByRecursion}
use Rattle.std.specs.Option.{option_or}
use Rattle.std.proofs.lemmas.List.{take_all, take_more, length-take-le, length-map, reverse-append, map-append}
use Rattle.std.proofs.lemmas.List.Folds.{find-append, list_any-append}
use Rattle.std.proofs.lemmas.List.Concat.{flat_map-append}

-- ---- numbered lists

enumerate-push : {X : Type 0} (n : ℕ) (xs : List X) (y : X) → enumerate_from n (xs ++ y ∷ []) ≡ enumerate_from n xs ++ (n + length xs, y) ∷ []
enumerate-push n [] y = let e : n ≡ n + 0 = omega arith in ap (λ k. (k, y) ∷ []) e
enumerate-push n (x ∷ xs) y =
    let e : (n + 1) + length xs ≡ n + suc (length xs) = omega arith in
    ap (λ l. (n, x) ∷ l) (enumerate-push (n + 1) xs y ∙ ap (λ k. enumerate_from (n + 1) xs ++ (k, y) ∷ []) e)

pub taken_more : {X Y : Type 0} (v : X → Y) (xs : List X) (i : ℕ) (d : X) → i < length xs → map v (take (i + 1) xs) ≡ map v (take i xs) ++ v (get_or xs i d) ∷ []
taken_more v xs i d within = ap (map v) (take_more xs i d within) ∙ map-append v (take i xs) (get_or xs i d ∷ [])

pub numbered_more : {X Y : Type 0} (v : X → Y) (xs : List X) (i : ℕ) (d : X) → i < length xs
    → enumerate_from 0 (map v (take (i + 1) xs)) ≡ enumerate_from 0 (map v (take i xs)) ++ (i, v (get_or xs i d)) ∷ []
numbered_more v xs i d within =
    let long : 0 + length (map v (take i xs)) ≡ i = omega (arith, length-map (take i xs) v, length-take-le i xs (omega (arith, within))) in
    ap (enumerate_from 0) (taken_more v xs i d within) ∙ enumerate-push 0 (map v (take i xs)) (v (get_or xs i d))
    ∙ ap (λ k. enumerate_from 0 (map v (take i xs)) ++ (k, v (get_or xs i d)) ∷ []) long

-- what is made of the numbered beginning of a list, with one more
pub joined_numbered : {X Y A : Type 0} (f : ℕ × Y → List A) (v : X → Y) (xs : List X) (i : ℕ) (d : X) → i < length xs
    → flat_map f (enumerate_from 0 (map v (take (i + 1) xs))) ≡ flat_map f (enumerate_from 0 (map v (take i xs))) ++ f (i, v (get_or xs i d))
joined_numbered f v xs i d within =
    let before = enumerate_from 0 (map v (take i xs)) in
    ap (flat_map f) (numbered_more v xs i d within) ∙ flat_map-append f before ((i, v (get_or xs i d)) ∷ [])
    ∙ ap (λ l. flat_map f before ++ l) (append-nil (f (i, v (get_or xs i d))))

-- of the beginning of a list, with one more
pub joined_more : {X Y A : Type 0} (f : Y → List A) (v : X → Y) (xs : List X) (i : ℕ) (d : X) → i < length xs
    → flat_map f (map v (take (i + 1) xs)) ≡ flat_map f (map v (take i xs)) ++ f (v (get_or xs i d))
joined_more f v xs i d within =
    ap (flat_map f) (taken_more v xs i d within) ∙ flat_map-append f (map v (take i xs)) (v (get_or xs i d) ∷ [])
    ∙ ap (λ l. flat_map f (map v (take i xs)) ++ l) (append-nil (f (v (get_or xs i d))))

-- ---- the first of a list, and the last from the other end

or_more : {X : Type 0} (b : Bool) (x : X) (o found : Option X) (rest : List X) → ((p : Option X) → last_or p rest ≡ option_or found p)
    → last_or o (cond b (x ∷ rest) rest) ≡ option_or (option_or found (cond b (Some x) None)) o
or_more true x o None rest is = is (Some x)
or_more true x o (Some y) rest is = is (Some x)
or_more false x o None rest is = is o
or_more false x o (Some y) rest is = is o

last_is_found : {X : Type 0} (test : X → Bool) (xs : List X) (o : Option X) → last_or o (filter test xs) ≡ option_or (find test (reverse xs)) o
last_is_found test [] o = refl
last_is_found test (x ∷ xs) o =
    or_more (test x) x o (find test (reverse xs)) (filter test xs) (last_is_found test xs)
    ∙ ap (λ f. option_or f o) (sym (ap (find test) (reverse-append (x ∷ []) xs) ∙ find-append test (reverse xs) (x ∷ [])))

or_none : {X : Type 0} (o : Option X) → option_or o None ≡ o
or_none None = refl
or_none (Some x) = refl

-- the last that passes is the first that does of the list turned round
pub first_of_reversed : {X : Type 0} (test : X → Bool) (xs : List X) → last_or None (filter test xs) ≡ find test (reverse xs)
first_of_reversed test xs = last_is_found test xs None ∙ or_none (find test (reverse xs))

last_there : {X : Type 0} (x : X) (xs : List X) → is_some (last_or (Some x) xs) ≡ true
last_there x [] = refl
last_there x (y ∷ xs) = last_there y xs

any_step : {X : Type 0} (test : X → Bool) (x : X) (xs : List X) (b : Bool) → list_any test xs ≡ is_some (last_or None (filter test xs))
    → (b || list_any test xs) ≡ is_some (last_or None (cond b (x ∷ filter test xs) (filter test xs)))
any_step test x xs true rest = sym (last_there x (filter test xs))
any_step test x xs false rest = rest

-- whether one passes is whether there is a last that does
pub any_is_last : {X : Type 0} (test : X → Bool) (xs : List X) → list_any test xs ≡ is_some (last_or None (filter test xs))
any_is_last test [] = refl
any_is_last test (x ∷ xs) = any_step test x xs (test x) (any_is_last test xs)

or_false : (b : Bool) → (b || false) ≡ b
or_false true = refl
or_false false = refl

-- whether one of the beginning of a list passes, with one more
pub any_more : {X Y : Type 0} (test : Y → Bool) (v : X → Y) (xs : List X) (i : ℕ) (d : X) → i < length xs
    → list_any test (map v (take (i + 1) xs)) ≡ (list_any test (map v (take i xs)) || test (v (get_or xs i d)))
any_more test v xs i d within =
    ap (list_any test) (taken_more v xs i d within) ∙ list_any-append test (map v (take i xs)) (v (get_or xs i d) ∷ [])
    ∙ ap (λ b. list_any test (map v (take i xs)) || b) (or_false (test (v (get_or xs i d))))

-- ---- the steps of loops

pub joined_at : {X Y A : Type 0} (f : Y → List A) (v : X → Y) (xs : List X) (i : ℕ) (x : X) → i < length xs → x ≡ get_or xs i x
    → flat_map f (map v (take (i + 1) xs)) ≡ flat_map f (map v (take i xs)) ++ f (v x)
joined_at f v xs i x within is = joined_more f v xs i x within ∙ ap (λ y. flat_map f (map v (take i xs)) ++ f (v y)) (sym is)

pub joined_step : {X Y A : Type 0} (f : ℕ × Y → List A) (v : X → Y) (xs : List X) (i : ℕ) (x : X) → i < length xs → x ≡ get_or xs i x
    → flat_map f (enumerate_from 0 (map v (take (i + 1) xs))) ≡ flat_map f (enumerate_from 0 (map v (take i xs))) ++ f (i, v x)
joined_step f v xs i x within is =
    joined_numbered f v xs i x within ∙ ap (λ y. flat_map f (enumerate_from 0 (map v (take i xs))) ++ f (i, v y)) (sym is)

pub joined_end : {X Y A : Type 0} (f : ℕ × Y → List A) (v : X → Y) (xs : List X) (i : ℕ) → length xs ≤ i
    → flat_map f (enumerate_from 0 (map v (take i xs))) ≡ flat_map f (enumerate_from 0 (map v xs))
joined_end f v xs i all = ap (λ l. flat_map f (enumerate_from 0 (map v l))) (take_all i xs all)
