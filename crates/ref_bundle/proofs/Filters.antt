-- Filters, and the last of what they leave.
use Rattle.std.proofs.Common.{◌≡◌, Bool, true, false, ◌&&◌, cond, List, [], ◌∷◌, ◌++◌, map, flat_map, filter, Option, Some, None, option_map, refl, ap, sym, ◌∙◌, true≢false}
use Rattle.std.specs.List.{last_or}
use Rattle.std.proofs.lemmas.List.{map-append}
use Rattle.std.proofs.lemmas.List.Elements.{filter-append}

-- ---- mapped

cond_mapped : {A B : Type 0} (g : A → B) (b c : Bool) (x : A) (xs : List A) (o : Option A) (ys : List B) → b ≡ c → ((p : Option A) → last_or (option_map g p) ys ≡ option_map g (last_or p xs))
    → last_or (option_map g o) (cond b (g x ∷ ys) ys) ≡ option_map g (last_or o (cond c (x ∷ xs) xs))
cond_mapped g true true x xs o ys same rest = rest (Some x)
cond_mapped g false false x xs o ys same rest = rest o
cond_mapped g true false x xs o ys same rest = absurd (true≢false same)
cond_mapped g false true x xs o ys same rest = absurd (true≢false (sym same))

last_mapped_or : {A B : Type 0} (g : A → B) (q : B → Bool) (p : A → Bool) → ((x : A) → q (g x) ≡ p x) → (xs : List A) (o : Option A)
    → last_or (option_map g o) (filter q (map g xs)) ≡ option_map g (last_or o (filter p xs))
last_mapped_or g q p same [] o = refl
last_mapped_or g q p same (x ∷ xs) o = cond_mapped g (q (g x)) (p x) x (filter p xs) o (filter q (map g xs)) (same x) (last_mapped_or g q p same xs)

-- the last of those that pass, mapped
pub last_mapped : {A B : Type 0} (g : A → B) (q : B → Bool) (p : A → Bool) → ((x : A) → q (g x) ≡ p x) → (xs : List A)
    → last_or None (filter q (map g xs)) ≡ option_map g (last_or None (filter p xs))
last_mapped g q p same xs = last_mapped_or g q p same xs None

-- ---- one filter after another

and_step : {X : Type 0} (q : X → Bool) (b : Bool) (x : X) (xs ys : List X) → xs ≡ filter q ys → cond (b && q x) (x ∷ xs) xs ≡ filter q (cond b (x ∷ ys) ys)
and_step q true x xs ys rest = ap (λ l. cond (q x) (x ∷ l) l) rest
and_step q false x xs ys rest = rest

pub filter_and : {X : Type 0} (p q : X → Bool) (xs : List X) → filter (λ x. p x && q x) xs ≡ filter q (filter p xs)
filter_and p q [] = refl
filter_and p q (x ∷ xs) = and_step q (p x) x (filter (λ y. p y && q y) xs) (filter p xs) (filter_and p q xs)

and_turned : (a b : Bool) → (a && b) ≡ (b && a)
and_turned true true = refl
and_turned true false = refl
and_turned false true = refl
and_turned false false = refl

cond_same : {X : Type 0} (b c : Bool) (x : X) (xs ys : List X) → b ≡ c → xs ≡ ys → cond b (x ∷ xs) xs ≡ cond c (x ∷ ys) ys
cond_same b c x xs ys same rest = ap (λ d. cond d (x ∷ xs) xs) same ∙ ap (λ l. cond c (x ∷ l) l) rest

pub filter_alike : {X : Type 0} (p q : X → Bool) → ((x : X) → p x ≡ q x) → (xs : List X) → filter p xs ≡ filter q xs
filter_alike p q same [] = refl
filter_alike p q same (x ∷ xs) = cond_same (p x) (q x) x (filter p xs) (filter q xs) (same x) (filter_alike p q same xs)

pub filter_turned : {X : Type 0} (p q : X → Bool) (xs : List X) → filter p (filter q xs) ≡ filter q (filter p xs)
filter_turned p q xs = sym (filter_and q p xs) ∙ filter_alike (λ x. q x && p x) (λ x. p x && q x) (λ x. and_turned (q x) (p x)) xs ∙ filter_and p q xs

and_alike : (a b c : Bool) → (a ≡ true → b ≡ c) → (a && b) ≡ (a && c)
and_alike true b c same = same refl
and_alike false b c same = refl

-- tests that agree on what passed another
pub filter_agree : {X : Type 0} (p q r : X → Bool) → ((x : X) → p x ≡ true → q x ≡ r x) → (xs : List X) → filter q (filter p xs) ≡ filter r (filter p xs)
filter_agree p q r same xs =
    sym (filter_and p q xs) ∙ filter_alike (λ x. p x && q x) (λ x. p x && r x) (λ x. and_alike (p x) (q x) (r x) (same x)) xs ∙ filter_and p r xs

-- where the last passes, it is the last of those that do
some_is : {X : Type 0} (y x : X) → Some x ≡ Some y → y ≡ x
some_is y x same = cc

by_test : {X : Type 0} (q : X → Bool) (x : X) (xs : List X) (p : Option X) (e : X) (b : Bool) → q x ≡ b
    → ((o : Option X) → ((y : X) → Some x ≡ Some y → q y ≡ true → o ≡ Some y) → last_or o (filter q xs) ≡ Some e) → last_or p (cond b (x ∷ filter q xs) (filter q xs)) ≡ Some e
by_test q x xs p e true t rest = rest (Some x) (λ y same h. same)
by_test q x xs p e false t rest = rest p (λ y same h. absurd (true≢false (sym h ∙ ap q (some_is y x same) ∙ t)))

last_passing_or : {X : Type 0} (q : X → Bool) (xs : List X) (o p : Option X) (e : X) → last_or o xs ≡ Some e → q e ≡ true → ((x : X) → o ≡ Some x → q x ≡ true → p ≡ Some x)
    → last_or p (filter q xs) ≡ Some e
last_passing_or q [] o p e is passes kept = kept e is passes
last_passing_or q (x ∷ xs) o p e is passes kept = by_test q x xs p e (q x) refl (λ r kept. last_passing_or q xs (Some x) r e is passes kept)

pub last_passing : {X : Type 0} (q : X → Bool) (xs : List X) (e : X) → last_or None xs ≡ Some e → q e ≡ true → last_or None (filter q xs) ≡ Some e
last_passing q xs e is passes = last_passing_or q xs None None e is passes (λ x none h. cc)

last_some : {X : Type 0} (x : X) (xs : List X) → last_or (Some x) xs ≡ None → ⊥
last_some x [] is = cc
last_some x (y ∷ xs) is = last_some y xs is

-- where there is no last, there is nothing
pub none_last : {X : Type 0} (xs : List X) → last_or None xs ≡ None → xs ≡ []
none_last [] is = refl
none_last (x ∷ xs) is = absurd (last_some x xs is)

-- ---- joined lists

pub joined_filter : {X Y A : Type 0} (v : X → A) (t : X → Bool) (g : Y → List X) (ys : List Y) → flat_map (λ y. map v (filter t (g y))) ys ≡ map v (filter t (flat_map g ys))
joined_filter v t g [] = refl
joined_filter v t g (y ∷ ys) =
    ap (λ l. map v (filter t (g y)) ++ l) (joined_filter v t g ys)
    ∙ sym (ap (map v) (filter-append t (g y) (flat_map g ys)) ∙ map-append v (filter t (g y)) (filter t (flat_map g ys)))
