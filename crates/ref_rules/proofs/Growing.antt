-- Lists that grow by what comes next from each of their elements in turn.
use Rattle.std.proofs.Common.{◌≡◌, ℕ, zero, suc, ◌+◌, ◌≤◌, Bool, true, false, true≢false, List, [], ◌∷◌, ◌++◌, map, flat_map, take, length, slice_get, Some, None, Bor, refl, sym, ap, subst, ◌∙◌, append-nil, append_assoc, arith}
use Rattle.std.specs.Slice.{IsItemAt}
use Rattle.std.proofs.lemmas.Option.{slice_get_read}
use Rattle.std.proofs.lemmas.List.{take_all}
use Rattle.std.proofs.lemmas.List.Concat.{flat_map-append}
use Rattle.ref_rules.specs.Slips.{Place}
use Rattle.ref_rules.specs.Places.{below}
use Rattle.ref_rules.specs.inner.Spots.{IsBelowAdded}

-- the first elements up to one that is there, whatever is added
pub taken_up_to : {X : Type 0} (xs ys : List X) (i : ℕ) (p : X) → slice_get xs i ≡ Some p → take (suc i) (xs ++ ys) ≡ take i xs ++ p ∷ []
taken_up_to [] ys i p is = absurd (cc)
taken_up_to (x ∷ xs) ys zero p is = let same : x ≡ p = cc in ap (λ z. z ∷ []) same
taken_up_to (x ∷ xs) ys (suc i) p is = ap (λ l. x ∷ l) (taken_up_to xs ys i p is)

pub is_within : {X : Type 0} (xs : List X) (i : ℕ) (p : X) → slice_get xs i ≡ Some p → suc i ≤ length xs
is_within [] i p is = absurd (cc)
is_within (x ∷ xs) zero p is = omega arith
is_within (x ∷ xs) (suc i) p is = omega (arith, is_within xs i p is)

pub is_past : {X : Type 0} (xs : List X) (i : ℕ) → slice_get xs i ≡ None → length xs ≤ i
is_past [] i is = omega arith
is_past (x ∷ xs) zero is = absurd (cc)
is_past (x ∷ xs) (suc i) is = omega (arith, is_past xs i is)

-- one element more is followed
pub grown : {X : Type 0} (b : X → List X) (roots xs : List X) (i : ℕ) (p : X) → slice_get xs i ≡ Some p → xs ≡ roots ++ flat_map b (take i xs) → xs ++ b p ≡ roots ++ flat_map b (take (suc i) (xs ++ b p))
grown b roots xs i p is before =
    ap (λ l. l ++ b p) before
    ∙ append_assoc roots (flat_map b (take i xs)) (b p)
    ∙ ap (λ l. roots ++ l)
    (ap (λ l. flat_map b (take i xs) ++ l) (sym (append-nil (b p)))
    ∙ sym (flat_map-append b (take i xs) (p ∷ []))
    ∙ ap (flat_map b) (sym (taken_up_to xs (b p) i p is)))

-- all are followed
pub all_grown : {X : Type 0} (b : X → List X) (roots xs : List X) (i : ℕ) → length xs ≤ i → xs ≡ roots ++ flat_map b (take i xs) → xs ≡ roots ++ flat_map b xs
all_grown b roots xs i past before = before ∙ ap (λ l. roots ++ flat_map b l) (take_all i xs past)

pub got : {X Y : Type 0} (f : X → Y) (xs : List X) (i : ℕ) (x : X) → slice_get xs i ≡ Some x → slice_get (map f xs) i ≡ Some (f x)
got f [] i x is = absurd (cc)
got f (y ∷ xs) zero x is = let same : y ≡ x = cc in ap (λ z. Some (f z)) same
got f (y ∷ xs) (suc i) x is = got f xs i x is

-- an element that is lent
pub lent_item : {A : Type 0} (xs : List A) (i : ℕ) (b : Bor A) → IsItemAt xs i (Some b) → slice_get xs i ≡ Some b.now
lent_item xs i b (is, lent, within, there, more) = slice_get_read xs (length xs) i b.now refl there.0 lent

next_number : (i : ℕ) → suc i ≡ i + 1
next_number i = omega arith

-- ---- places

pub next_places : (roots old new : List Place) (i : ℕ) (b : Bool) → b ≡ true → IsBelowAdded i old new b → old ≡ roots ++ flat_map below (take i old) → new ≡ roots ++ flat_map below (take (i + 1) new)
next_places roots old new i true so added before =
    let all : new ≡ roots ++ flat_map below (take (suc i) new) = subst (λ l. l ≡ roots ++ flat_map below (take (suc i) l)) (sym added.2) (grown below roots old i added.0 added.1 before) in
    subst (λ n. new ≡ roots ++ flat_map below (take n new)) (next_number i) all
next_places roots old new i false so added before = absurd (true≢false (sym so))

pub last_places : (roots old new : List Place) (i : ℕ) (b : Bool) → b ≡ false → IsBelowAdded i old new b → old ≡ roots ++ flat_map below (take i old) → new ≡ roots ++ flat_map below new
last_places roots old new i false so added before = subst (λ l. l ≡ roots ++ flat_map below l) (sym added.1) (all_grown below roots old i (is_past old i added.0) before)
last_places roots old new i true so added before = absurd (true≢false so)
