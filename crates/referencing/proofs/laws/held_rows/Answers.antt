use Rattle.std.proofs.Common.{zero, suc, refl, sym, subst, [], ◌∷◌, codes, arith}
use Rattle.std.specs.List.{Contains, Any}
use Rattle.ref_definitions.specs.Cached.{Pair, pairs}
use Rattle.ref_definitions.specs.Rows.{world, refers_to_b, c_is_true}
use Rattle.ref_definitions.proofs.OnLiterals.{world_on_literals}
use Rattle.referencing.proofs.laws.held_rows.Goals as goal

-- a pair that is first in a list
first : (p : Pair) → Contains (p ∷ []) p
first p = (0, omega (arith), refl)

nothing_in : (p : Pair) → Contains [] p → ⊥
nothing_in p (k, less, at) = omega (arith, less)

-- a document without an identifier and a reference holds none
not_in : (p : Pair) → Any (λ layer. Contains (pairs layer) p) (world (c_is_true ∷ [])) → ⊥
unfolding world_on_literals
not_in p (zero, layer, less, at, holds) = nothing_in p (subst (λ l. Contains (pairs l) p) (sym at) holds)
not_in p (suc k, layer, less, at, holds) = omega (arith, less)

pub returns : goal.returns
unfolding world_on_literals
returns c = record {
  rows = record {
    held = (0, refers_to_b ∷ [], omega (arith), refl, first (codes "http://a/r", codes "b"));
    held_by_a_parent = (1, refers_to_b ∷ [], omega (arith), refl, first (codes "http://a/r", codes "b"));
    not_held = not_in (codes "http://a/c", codes "b");
  };
}
