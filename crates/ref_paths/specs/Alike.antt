-- The laws of equality of parts that the impls keep: an impl may cite what is in specs alone.
use Rattle.std.specs.Prelude.{◌≡◌, true, refl}
use Rattle.std.specs.Cmp.{IsEquivalence, nat_eq_equiv}
use Rattle.std.specs.Cmp.Lexicographic.{nat_list_eq_equiv}
use Rattle.std.proofs.lemmas.Bool.{false≢true}
use Rattle.ref_paths.specs.Path.{Part, Key, Index, part_eq}

pub part_equivalence : IsEquivalence part_eq
part_equivalence = record { refl = reflexive; symm = symmetric; congr = alike }
  where
    reflexive : (p : Part) → part_eq p p ≡ true
    reflexive (Key k) = nat_list_eq_equiv.refl k
    reflexive (Index i) = nat_eq_equiv.refl i

    symmetric : (p q : Part) → part_eq p q ≡ part_eq q p
    symmetric (Key k) (Key m) = nat_list_eq_equiv.symm k m
    symmetric (Key k) (Index j) = refl
    symmetric (Index i) (Key m) = refl
    symmetric (Index i) (Index j) = nat_eq_equiv.symm i j

    alike : (p q r : Part) → part_eq p q ≡ true → part_eq p r ≡ part_eq q r
    alike (Key k) (Key m) (Key n) e = nat_list_eq_equiv.congr k m n e
    alike (Key k) (Key m) (Index l) e = refl
    alike (Key k) (Index j) r e = absurd (false≢true e)
    alike (Index i) (Key m) r e = absurd (false≢true e)
    alike (Index i) (Index j) (Key n) e = refl
    alike (Index i) (Index j) (Index l) e = nat_eq_equiv.congr i j l e
