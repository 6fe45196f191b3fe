use Rattle.std.proofs.Common.{◌≡◌, ℕ, List, [], ◌∷◌, nat_eq, Option, Some, None, true, length, refl, ap, sym, subst, arith}
use Rattle.std.specs.Cmp.{nat_eq_equiv}
use Rattle.std.proofs.lemmas.Bool.{false≢true}
use Rattle.ref_parts.proofs.MapLaws.{Puts-insert}
use Rattle.ref_parts.specs.Rows.Maps.{one, two}
use Rattle.ref_parts.proofs.laws.map_rows.Goals as goal

abbrev first_key : List (Option (ℕ × ℕ)) → ℕ
first_key [] = 0
first_key (None ∷ slots) = 0
first_key (Some pair ∷ slots) = pair.0

pub returns : goal.returns
returns c = record {
  rows = record {
    put_new = Puts-insert nat_eq_equiv one 2 20;
    put_over = Puts-insert nat_eq_equiv two 1 11;
    put_moves = λ p. let keys = p.keys in absurd (cc);
    put_before = λ p. let keys = p.keys in absurd (cc);
    put_drops = λ p. omega (arith, ap length p.keys);
    put_keeps = λ p. let same = p.found 1 in absurd (cc);
    clone_of_entries = ((refl, refl), ((refl, refl), tt));
    clone_in_another_order = λ h. let first = h.0 in let key = first.0 in absurd (cc);
    clone_of_less = λ h. absurd h.1;
    pairs_of_slots = refl;
    pairs_past_empty = refl;
    all_hold = tt;
    one_is_empty = λ h. h;
    no_entries = refl;
    entries = refl;
    each_once = (refl, (refl, tt));
    one_twice = λ o. let found = o.0 in absurd (cc);
    form_of_two = (tt, omega arith, (refl, (refl, tt)));
    form_of_one = λ f. omega (arith, f.1);
    place = record { within = omega arith; first = refl; here = ((2, 20), refl, refl) };
    other_place = λ p. let key = ap first_key p.here.1 in false≢true (subst (λ k. nat_eq 2 k ≡ true) (sym key) p.here.2);
  };
}
