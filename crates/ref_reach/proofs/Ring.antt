-- What is reached in a ring.
use Rattle.std.proofs.Common.{◌≡◌, zero, suc, true, false, true≢false, ◌||◌, [], ◌∷◌, Contains, refl, sym, ap, subst, ◌∙◌, arith}
use Rattle.std.specs.List.{IsDistinct}
use Rattle.std.proofs.lemmas.Slice.Eq.{bytes_eq-Decides}
use Rattle.ref_reach.specs.Places.{Place}
use Rattle.ref_reach.specs.Reached.{AreReached, IsReached, from_own, from_reached, leads, next, place_text, is_same, is_in}
use Rattle.ref_reach.specs.Rows.{begins, comes, ring}

itself : (p : Place) → is_same p p ≡ true
itself p = (bytes_eq-Decides (place_text p) (place_text p)).1 refl

only_one : (x y : Place) → Contains (x ∷ []) y → x ≡ y
only_one x y (zero, within, is) = is
only_one x y (suc k, within, is) = absurd (omega (arith, within))

is_first : (p : Place) → is_in (p ∷ []) p ≡ true
is_first p = ap (λ b. b || false) (itself p)

comes_is_reached : IsReached ring comes
comes_is_reached = from_own begins comes (0, omega arith, refl) (0, omega arith, refl)

all_are_it : (p : Place) → IsReached ring p → comes ≡ p
all_are_it q (from_own from p among near) = only_one comes p (subst (λ f. Contains (leads ring f) p) (sym (only_one begins from among)) near)
all_are_it q (from_reached from p is near) = only_one comes p (subst (λ f. Contains (next ring f) p) (sym (all_are_it from is)) near)

distinct_one : IsDistinct is_same (comes ∷ [])
unfolding IsDistinct
distinct_one = (tt, tt)

pub ring_is : AreReached ring (comes ∷ [])
ring_is = record {
  only = λ p among. subst (IsReached ring) (only_one comes p among) comes_is_reached;
  from_own = λ from p among near. subst (λ q. is_in (comes ∷ []) q ≡ true) (only_one comes p (subst (λ f. Contains (leads ring f) p) (sym (only_one begins from among)) near)) (is_first comes);
  closed = λ from p among near. subst (λ q. is_in (comes ∷ []) q ≡ true) (only_one comes p (subst (λ f. Contains (next ring f) p) (sym (only_one comes from among)) near)) (is_first comes);
  once = distinct_one;
}

pub not_nothing : AreReached ring [] → ⊥
not_nothing are = true≢false (sym (are.from_own begins comes (0, omega arith, refl) (0, omega arith, refl)))

pub not_twice : AreReached ring (comes ∷ comes ∷ []) → ⊥
unfolding IsDistinct
not_twice are = true≢false (sym (itself comes) ∙ are.once.0.0)

pub not_the_beginning : AreReached ring (comes ∷ begins ∷ []) → ⊥
not_the_beginning are =
    let same : comes ≡ begins = all_are_it begins (are.only begins (1, omega arith, refl)) in
    let paths : comes.path ≡ begins.path = ap (λ p. p.path) same in
    absurd (cc)
