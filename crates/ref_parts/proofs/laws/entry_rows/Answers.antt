use Rattle.std.proofs.Common.{◌≡◌, ℕ, List, [], ◌∷◌, ◌++◌, length, nat_eq, true, refl, sym, ap, subst, arith}
use Rattle.std.proofs.lemmas.Bool.{false≢true}
use Rattle.ref_parts.specs.Rows.Maps.{two}
use Rattle.ref_parts.proofs.laws.entry_rows.Goals as goal

abbrev first_key : List (ℕ × ℕ) → ℕ
first_key [] = 0
first_key (pair ∷ pairs) = pair.0

no_other : (front : List (ℕ × ℕ)) (pair : ℕ × ℕ) (back : List (ℕ × ℕ)) → two ≡ front ++ pair ∷ back → length front ≡ 0 → nat_eq 2 pair.0 ≡ true → ⊥
no_other [] pair back cut after here = false≢true (subst (λ k. nat_eq 2 k ≡ true) (sym (ap first_key cut)) here)
no_other (x ∷ front) pair back cut after here = absurd (omega (arith, after))

pub returns : goal.returns
returns c = record {
  rows = record {
    first_place = record { front = []; pair = (1, 10); back = (2, 20) ∷ []; cut = refl; after = refl; first = refl; here = refl };
    second_place = record { front = (1, 10) ∷ []; pair = (2, 20); back = []; cut = refl; after = refl; first = refl; here = refl };
    other_place = λ at. no_other at.front at.pair at.back at.cut at.after at.here;
    first_of_equal_keys = record { front = []; pair = (1, 11); back = two; cut = refl; after = refl; first = refl; here = refl };
    written_pair = refl;
    no_pair = refl;
    written_slot = refl;
    first_slot = refl;
    written_form = refl;
    second_of_a_form = refl;
    hashed_entries = λ map is. is;
    hashed_form = λ map is. let three = ap length is in omega (arith, three);
    not_hashed_yet = λ map is more. let two = ap length is in omega (arith, two, more);
  };
}
