-- What an index has after an item is added.
use Rattle.std.proofs.Common.{◌≡◌, ℕ, ◌∙◌, ◌++◌, [], ◌∷◌, zero, suc, ap, sym, refl, false, List, Option, Some, None, Ordering, Less, Equal, Greater}
use Rattle.std.specs.Ordering.{nat_cmp, ordering_then, is_eq}
use Rattle.std.proofs.lemmas.Map.Lookups.{exact_pairs, exact_unsigned}
use Rattle.std.specs.BTreeMap.{BTreeMap, get, get_by_text}
use Rattle.std.specs.Prelude.{slice_get, String, option_and_then}
use Rattle.std.specs.declared.alloc.Global.{Global}
use Rattle.ref_positions.specs.Paths.{member, item}
use Rattle.ref_positions.specs.Places.{KeepsOthers}
use Rattle.ref_positions.specs.declared.places.Index.{Index}

other_order : (o : Ordering) → (o ≡ Equal → ⊥) → is_eq o ≡ false
other_order Less h = refl
other_order Equal h = absurd (h refl)
other_order Greater h = refl

pub get_more : {X : Type 0} (xs ys : List X) (n : ℕ) (x : X) → slice_get xs n ≡ Some x → slice_get (xs ++ ys) n ≡ Some x
get_more [] ys n x h = cc
get_more (y ∷ xs) ys zero x h = h
get_more (y ∷ xs) ys (suc n) x h = get_more xs ys n x h

-- pairs that differ aren't ordered as the same
pair_differs : (a b c d : ℕ) → ((c ≡ a) → (d ≡ b) → ⊥) → is_eq (ordering_then (nat_cmp a c) (nat_cmp b d)) ≡ false
pair_differs a b c d h = other_order _ (λ e. let same = exact_pairs nat_cmp nat_cmp exact_unsigned exact_unsigned (a, b) (c, d) e in h (ap (λ (p : ℕ × ℕ). p.0) (sym same)) (ap (λ (p : ℕ × ℕ). p.1) (sym same)))

some_text : {Y : Type 0} (a b : Option (BTreeMap (String Y) ℕ)) (key : List ℕ) (k : ℕ) → ((m : BTreeMap (String Y) ℕ) → a ≡ Some m → b ≡ Some m)
    → option_and_then (λ m. get_by_text m key) a ≡ Some k → option_and_then (λ m. get_by_text m key) b ≡ Some k
some_text None b key k same h = cc
some_text (Some m) b key k same h = rw (same m refl) h

pub item_kept : (old new : Index) (place i : ℕ)
    → ((n : ℕ) (m : BTreeMap (String Global) ℕ) → slice_get old.members.items n ≡ Some m → slice_get new.members.items n ≡ Some m)
    → ((q : ℕ × ℕ) → is_eq (ordering_then (nat_cmp place q.0) (nat_cmp i q.1)) ≡ false → get (λ (a b : ℕ × ℕ). ordering_then (nat_cmp a.0 b.0) (nat_cmp a.1 b.1)) new.items q ≡ get (λ (a b : ℕ × ℕ). ordering_then (nat_cmp a.0 b.0) (nat_cmp a.1 b.1)) old.items q)
    → KeepsOthers old new place (item i)
item_kept old new place i more others n k (member key) ne h = some_text (slice_get old.members.items n) (slice_get new.members.items n) key k (more n) h
item_kept old new place i more others n k (item j) ne h = others (n, j) (pair_differs place i n j (λ a b. ne a (ap item b))) ∙ h
