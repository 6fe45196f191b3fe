-- URIs in byte order: where one is put, and whether it is there.
use Rattle.std.proofs.Common.{◌≡◌, ℕ, zero, suc, ◌<◌, ◌≤◌, Bool, true, false, ◌||◌, List, [], ◌∷◌, length, bytes_eq, Result, Ok, Err, is_ok, add-one, refl, sym, ◌∙◌, ap, arith}
use Rattle.std.specs.List as list
use Rattle.std.specs.List.{HoldsAt, AllByRecursion}
use Rattle.std.specs.List.Sorted.{IsStrictlySortedBy, IsPartitionPoint, IsNonDecreasingBy, IsBinarySearchResult, IsSearchInRange, IsSortedBy}
use Rattle.std.specs.Ordering.{nat_cmp, match_ordering, ordering_index, ordering_reverse, is_lt, is_eq}
use Rattle.std.specs.declared.cmp.Ordering.{Ordering}
use Rattle.std.specs.declared.cmp.Ordering.TheVariants.{Less, Equal, Greater}
use Rattle.std.specs.Cmp.Lexicographic.{slice_cmp, nat_list_cmp_total, texts_ties}
use Rattle.std.proofs.lemmas.List.Sorted.{searchable_from_sorted}
use Rattle.ref_vocabularies.specs.Vocabularies.{with_uri, has_uri}
use Rattle.ref_vocabularies.specs.Views.{AreInByteOrder}

abbrev pub order : List ℕ → List ℕ → Ordering
order u v = slice_cmp nat_cmp u v

pub after : (u v : List ℕ) → order u v ≡ Less → order v u ≡ Greater
after u v e = nat_list_cmp_total.antisymm v u ∙ ap ordering_reverse e

pub before : (u v : List ℕ) → order u v ≡ Greater → order v u ≡ Less
before u v e = nat_list_cmp_total.antisymm v u ∙ ap ordering_reverse e

pub same : (u v : List ℕ) → order u v ≡ Equal → order v u ≡ Equal
same u v e = nat_list_cmp_total.antisymm v u ∙ ap ordering_reverse e

pub equal : (u v : List ℕ) → bytes_eq u v ≡ is_eq (order u v)
equal u v = texts_ties u v

-- a step of `with_uri`
pub put-less : (u x : List ℕ) (xs : List (List ℕ)) → order u x ≡ Less → with_uri u (x ∷ xs) ≡ u ∷ x ∷ xs
put-less u x xs e = ap (λ o. match_ordering o (u ∷ x ∷ xs) (x ∷ xs) (x ∷ with_uri u xs)) e

pub put-equal : (u x : List ℕ) (xs : List (List ℕ)) → order u x ≡ Equal → with_uri u (x ∷ xs) ≡ x ∷ xs
put-equal u x xs e = ap (λ o. match_ordering o (u ∷ x ∷ xs) (x ∷ xs) (x ∷ with_uri u xs)) e

pub put-greater : (u x : List ℕ) (xs : List (List ℕ)) → order u x ≡ Greater → with_uri u (x ∷ xs) ≡ x ∷ with_uri u xs
put-greater u x xs e = ap (λ o. match_ordering o (u ∷ x ∷ xs) (x ∷ xs) (x ∷ with_uri u xs)) e

-- what a search finds no place for is where the search ends
pub put-searched : (u : List ℕ) (xs : List (List ℕ)) (i : ℕ) → i ≤ length xs
    → IsPartitionPoint (λ y. order y u ≡ Less) (λ y. order y u ≡ Greater) xs i → with_uri u xs ≡ list.insert xs i u
put-searched u [] zero small at = refl
put-searched u [] (suc i) small at = absurd (omega arith)
put-searched u (x ∷ xs) zero small at = put-less u x xs (before x u (at.1 0 x (omega arith) (omega arith)))
put-searched u (x ∷ xs) (suc i) small at =
    put-greater u x xs (after x u (at.0 0 x (omega arith) (omega arith)))
    ∙ ap (λ rest. x ∷ rest) (put-searched u xs i (omega arith) (λ k d low high. at.0 (suc k) d (omega arith) (omega arith), λ k d low high. at.1 (suc k) d (omega arith) (omega arith)))

-- each of some URIs passes
all-put : (P : List ℕ → Type 0) (u : List ℕ) (xs : List (List ℕ)) → P u → AllByRecursion P xs → AllByRecursion P (with_uri u xs)
all-put P u [] p all = (p, tt)
all-put P u (x ∷ xs) p all =
    elim (order u x) as (λ o. AllByRecursion P (match_ordering o (u ∷ x ∷ xs) (x ∷ xs) (x ∷ with_uri u xs))) [
      | Less ↦ (p, all)
      | Equal ↦ all
      | Greater ↦ (all.0, all-put P u xs p all.1)
    ]

all-mapped : (P Q : List ℕ → Type 0) → ((x : List ℕ) → P x → Q x) → (xs : List (List ℕ)) → AllByRecursion P xs → AllByRecursion Q xs
all-mapped P Q f [] all = tt
all-mapped P Q f (x ∷ xs) all = (f x all.0, all-mapped P Q f xs all.1)

-- what is put among URIs in order leaves them in order
pub in_order-put : (u : List ℕ) (xs : List (List ℕ)) → AreInByteOrder xs → AreInByteOrder (with_uri u xs)
unfolding IsStrictlySortedBy
in_order-put u [] sorted = (tt, tt)
in_order-put u (x ∷ xs) sorted =
    elim (order u x) as (λ o. order u x ≡ o → AreInByteOrder (match_ordering o (u ∷ x ∷ xs) (x ∷ xs) (x ∷ with_uri u xs))) [
      | Less ↦ λ e. ((e, all-mapped (λ y. order x y ≡ Less) (λ y. order u y ≡ Less) (λ y later. nat_list_cmp_total.trans u x y e later) xs sorted.0), sorted)
      | Equal ↦ λ e. sorted
      | Greater ↦ λ e. (all-put (λ y. order x y ≡ Less) u xs (before u x e) sorted.0, in_order-put u xs sorted.1)
    ] refl

-- URIs in order are none the later one below the earlier
later_first : (xs : List (List ℕ)) → AreInByteOrder xs → IsSortedBy (λ a b. is_lt (order a b)) xs
unfolding IsStrictlySortedBy
later_first [] sorted k d low small = absurd (omega arith)
later_first (x ∷ []) sorted k d low small = absurd (omega arith)
later_first (x ∷ y ∷ xs) sorted zero d low small = ap is_lt (after x y sorted.0.0)
later_first (x ∷ y ∷ xs) sorted (suc k) d low small = rw add-one (rw add-one at (later_first (y ∷ xs) sorted.1 k d (omega arith) (omega arith)))

-- a search among URIs in order may be by halves
pub searchable : (u : List ℕ) (xs : List (List ℕ)) → AreInByteOrder xs → IsNonDecreasingBy (λ y. ordering_index (order y u)) xs
searchable u xs sorted = searchable_from_sorted nat_list_cmp_total (λ x. x) xs u (later_first xs sorted)

-- what is among URIs that are all later is none of them
none_later : (u : List ℕ) (xs : List (List ℕ)) → AllByRecursion (λ y. order u y ≡ Less) xs → has_uri xs u ≡ false
none_later u [] all = refl
none_later u (x ∷ xs) all = rw (equal x u) (rw (after u x all.0) (none_later u xs all.1))

-- what is there needs no place
pub put-there : (u : List ℕ) (xs : List (List ℕ)) → AreInByteOrder xs → has_uri xs u ≡ true → with_uri u xs ≡ xs
unfolding IsStrictlySortedBy
put-there u [] sorted there = cc
put-there u (x ∷ xs) sorted there =
    elim (order u x) as (λ o. order u x ≡ o → match_ordering o (u ∷ x ∷ xs) (x ∷ xs) (x ∷ with_uri u xs) ≡ x ∷ xs) [
      | Less ↦ λ e. let none = none_later u (x ∷ xs) (e, all-mapped (λ y. order x y ≡ Less) (λ y. order u y ≡ Less) (λ y later. nat_list_cmp_total.trans u x y e later) xs sorted.0) in cc
      | Equal ↦ λ e. refl
      | Greater ↦ λ e. ap (λ rest. x ∷ rest) (put-there u xs sorted.1 (rw (equal x u, before u x e) at there))
    ] refl

or-true : (b : Bool) → (b || true) ≡ true
or-true true = refl
or-true false = refl

-- what is found is there
pub there-found : (u : List ℕ) (xs : List (List ℕ)) (i : ℕ) → i < length xs → HoldsAt (λ y. order y u ≡ Equal) xs i → has_uri xs u ≡ true
there-found u [] i small at = absurd (omega arith)
there-found u (x ∷ xs) zero small at = rw (equal x u, at x) refl
there-found u (x ∷ xs) (suc i) small at = rw (there-found u xs i (omega arith) (λ d. at d)) (or-true (bytes_eq x u))

-- where each is earlier or later it is not there
pub missing : (u : List ℕ) (xs : List (List ℕ)) (i : ℕ)
    → IsPartitionPoint (λ y. order y u ≡ Less) (λ y. order y u ≡ Greater) xs i → has_uri xs u ≡ false
missing u [] i at = refl
missing u (x ∷ xs) zero at =
    rw (equal x u, at.1 0 x (omega arith) (omega arith))
    (missing u xs zero (λ k d low high. absurd (omega arith), λ k d low high. at.1 (suc k) d (omega arith) (omega arith)))
missing u (x ∷ xs) (suc i) at =
    rw (equal x u, at.0 0 x (omega arith) (omega arith))
    (missing u xs i (λ k d low high. at.0 (suc k) d (omega arith) (omega arith), λ k d low high. at.1 (suc k) d (omega arith) (omega arith)))

-- a search by halves shows whether a URI is there
pub found-there : (u : List ℕ) (xs : List (List ℕ)) (r : Result ℕ ℕ) → AreInByteOrder xs → IsSearchInRange r (length xs)
    → IsBinarySearchResult (λ y. order y u) xs r → is_ok r ≡ has_uri xs u
found-there u xs (Ok i) sorted range result = sym (there-found u xs i range result)
found-there u xs (Err i) sorted range result = sym (missing u xs i (result (searchable u xs sorted)))
