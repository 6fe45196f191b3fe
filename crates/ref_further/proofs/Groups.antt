-- Places in groups, one for each document.
use Rattle.std.specs.Prelude.{slice_set}
use Rattle.std.proofs.Common.{◌≡◌, ℕ, zero, suc, ◌<◌, ◌≤◌, Bool, false, ◌==◌, cond, List, [], ◌∷◌, ◌++◌, map, flat_map, length, slice_get, Option, Some, None, option_map, Vec, Global, refl, ap, sym, ◌∙◌, append-nil, arith, true≢false}
use Rattle.std.specs.List.{ItemBy}
use Rattle.std.proofs.lemmas.Bool.{eqb-true, eq-eqb}
use Rattle.std.proofs.lemmas.Option.{slice_get_past, slice_get_read}
use Rattle.std.proofs.lemmas.List.Concat.{flat_map-append}
use Rattle.ref_reach.specs.Places.{Place}
use Rattle.ref_bundle.specs.Needed.{Seen, further_in}
use Rattle.ref_bundle.specs.Saying.{seen_spot, further_of}
use Rattle.ref_bundle.specs.declared.own.Spot.{Spot}
use Rattle.ref_bundle.specs.inner.First.{first}
use Rattle.ref_bundle.proofs.Numbers.{one_test}
use Rattle.ref_further.specs.Further.{seen_in}

pub first_is : {X : Type 0} (xs : List X) → first xs ≡ slice_get xs 0
first_is [] = refl
first_is (x ∷ xs) = refl

-- an element that is lent to be changed
pub got_by : {R X : Type 0} (now : R → X) (xs : List X) (i : ℕ) (r : Option R) → ItemBy now xs i i r → option_map now r ≡ slice_get xs i
got_by now xs i None (is, lent, within, past, more) = sym (slice_get_past xs i past)
got_by now xs i (Some b) (is, lent, within, there, more) = sym (slice_get_read xs (length xs) i (now b) refl there.0 lent)

-- groups without places, with one more
pub one_more_empty : (gs : List (Vec Spot Global)) (g : Vec Spot Global) → map seen_spot g.items ≡ [] → ((n : ℕ) → further_in (further_of gs) n ≡ []) → (n : ℕ) → further_in (further_of (gs ++ g ∷ [])) n ≡ []
one_more_empty [] g is none zero = is
one_more_empty [] g is none (suc n) = refl
one_more_empty (h ∷ gs) g is none zero = none 0
one_more_empty (h ∷ gs) g is none (suc n) = one_more_empty gs g is (λ k. none (suc k)) n

-- ---- a place that is added to a group

apart : (n m : ℕ) → (n ≡ m → ⊥) → (n == m) ≡ false
apart n m differ = sym (one_test false (n == m) (λ is. absurd (true≢false (sym is))) (λ is. absurd (differ (eqb-true n m is))))

same_suc : (n m : ℕ) → (n == m) ≡ (suc n == suc m)
same_suc n m = one_test (n == m) (suc n == suc m)
    (λ is. eq-eqb (suc n) (suc m) (ap suc (eqb-true n m is)))
    (λ is. let same = eqb-true (suc n) (suc m) is in eq-eqb n m (omega (arith, same)))

unless : (b : Bool) (xs : List Seen) (s : Seen) → b ≡ false → xs ≡ xs ++ cond b (s ∷ []) []
unless b xs s is = sym (append-nil xs) ∙ ap (λ c. xs ++ cond c (s ∷ []) []) (sym is)

pub added_to : (gs : List (Vec Spot Global)) (i : ℕ) (g h : Vec Spot Global) (s : Seen) → slice_get gs i ≡ Some g → map seen_spot h.items ≡ map seen_spot g.items ++ s ∷ []
    → (n : ℕ) → further_in (further_of (slice_set gs i h)) n ≡ further_in (further_of gs) n ++ cond (i == n) (s ∷ []) []
added_to [] i g h s is more n = cc
added_to (x ∷ gs) zero g h s is more zero = more ∙ ap (λ y. map seen_spot y.items ++ s ∷ []) (let e : g ≡ x = cc in e)
added_to (x ∷ gs) zero g h s is more (suc n) = unless (0 == suc n) (further_in (further_of gs) n) s (apart 0 (suc n) (λ same. omega (arith, same)))
added_to (x ∷ gs) (suc i) g h s is more zero = unless (suc i == 0) (map seen_spot x.items) s (apart (suc i) 0 (λ same. omega (arith, same)))
added_to (x ∷ gs) (suc i) g h s is more (suc n) =
    added_to gs i g h s is more n ∙ ap (λ b. further_in (further_of gs) n ++ cond b (s ∷ []) []) (same_suc i n)

none_past : {X : Type 0} (xs : List X) (n : ℕ) → slice_get xs n ≡ None → length xs ≤ n
none_past [] n is = omega arith
none_past (x ∷ xs) zero is = cc
none_past (x ∷ xs) (suc n) is = let rest = none_past xs n is in omega (arith, rest)

-- where there is no group of its number, none of the others gets it
pub added_nowhere : (gs : List (Vec Spot Global)) (i : ℕ) (s : Seen) → slice_get gs i ≡ None → (n : ℕ) → n < length gs → further_in (further_of gs) n ≡ further_in (further_of gs) n ++ cond (i == n) (s ∷ []) []
added_nowhere gs i s is n less =
    let past = none_past gs i is in unless (i == n) (further_in (further_of gs) n) s (apart i n (λ same. omega (arith, past, less, same)))

-- ---- several lists of places

pub three_lists : (n : ℕ) (xs ys zs : List Place) → (([] ++ flat_map (seen_in n) xs) ++ flat_map (seen_in n) ys) ++ flat_map (seen_in n) zs ≡ flat_map (seen_in n) ((xs ++ ys) ++ zs)
three_lists n xs ys zs =
    ap (λ l. l ++ flat_map (seen_in n) zs) (sym (flat_map-append (seen_in n) xs ys)) ∙ sym (flat_map-append (seen_in n) (xs ++ ys) zs)
