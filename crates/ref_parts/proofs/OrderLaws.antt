-- What the order of two pairs is, by whether their first texts are equal.
use Rattle.std.proofs.Common.{◌≡◌, ℕ, List, true, false, bytes_eq, refl, sym, ap, ◌∙◌}
use Rattle.std.proofs.lemmas.Bool.{false≢true}
use Rattle.std.specs.Cmp.{Equal-is}
use Rattle.std.specs.Cmp.Lexicographic.{slice_cmp}
use Rattle.std.specs.Ordering.{ordering_then, ordering_reverse, is_eq, nat_cmp}
use Rattle.std.proofs.lemmas.Cmp.{nat_cmp_total}
use Rattle.std.proofs.lemmas.Map.Text.{is_eq-slice_cmp}
use Rattle.ref_parts.specs.inner.SortedEntries.{key_cmp}
use Rattle.std.specs.declared.cmp.Ordering.{Ordering}
use Rattle.std.specs.declared.cmp.Ordering.TheVariants.{Less, Equal, Greater}

-- where the first are unequal, their order is that of the pairs
pub first_decides : (x y : Ordering) → is_eq x ≡ false → x ≡ ordering_then x y
first_decides Less y unlike = refl
first_decides Equal y unlike = absurd (false≢true (sym unlike))
first_decides Greater y unlike = refl

-- where the first are equal, the order of the second is that of the pairs
pub second_decides : (x y : Ordering) → is_eq x ≡ true → y ≡ ordering_then x y
second_decides Less y alike = absurd (false≢true alike)
second_decides Equal y alike = refl
second_decides Greater y alike = absurd (false≢true alike)

three_equal : (x y z : Ordering) → x ≡ Equal → y ≡ Equal → z ≡ Equal → ordering_then x (ordering_then y z) ≡ Equal
three_equal x y z first second third = rw first (rw second third)

itself : (r : Ordering) → r ≡ ordering_reverse r → r ≡ Equal
itself Less is = absurd (cc)
itself Equal is = refl
itself Greater is = absurd (cc)

level : (n : ℕ) → nat_cmp n n ≡ Equal
level n = itself (nat_cmp n n) (nat_cmp_total.antisymm n n)

texts_level : (a b : List ℕ) → bytes_eq a b ≡ true → slice_cmp nat_cmp a b ≡ Equal
texts_level a b equal = (Equal-is (slice_cmp nat_cmp a b)).0 (is_eq-slice_cmp a b ∙ equal)

-- keys of one number and of equal texts
pub equal_keys : (word sought : ℕ) (first other second more : List ℕ) → word ≡ sought → bytes_eq first other ≡ true → bytes_eq second more ≡ true
    → key_cmp (word, (other, more)) (sought, (first, second)) ≡ Equal
equal_keys word sought first other second more same one two =
    three_equal (nat_cmp sought word) (slice_cmp nat_cmp first other) (slice_cmp nat_cmp second more) (ap (nat_cmp sought) same ∙ level sought) (texts_level first other one) (texts_level second more two)
