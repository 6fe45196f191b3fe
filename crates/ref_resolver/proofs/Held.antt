-- A pair that one of the layers holds, and the nearest doesn't, is held by one of the others.
use Rattle.std.proofs.Common.{sym, subst, ℕ, zero, suc, List, ◌∷◌}
use native.Mathlib.Omega.{arith}
use Rattle.std.specs.List.{Contains, Any}
use Rattle.ref_definitions.specs.World.{Layer, World}
use Rattle.ref_definitions.specs.Cached.{pairs}
use Rattle.ref_resolver.specs.Layered.{IsHeld}

behind : {X : Type 0} (P : X → Type 0) (x : X) (xs : List X) → (P x → ⊥) → Any P (x ∷ xs) → Any P xs
behind P x xs none (zero, y, less, is, holds) = absurd (none (subst P (sym is) holds))
behind P x xs none (suc k, y, less, is, holds) = (k, y, omega (arith, less), is, holds)

pub held_above : (layer : Layer) (parents : World) (base text : List ℕ) → (Contains (pairs layer) (base, text) → ⊥) → IsHeld (layer ∷ parents) base text → IsHeld parents base text
held_above layer parents base text none held = behind (λ l. Contains (pairs l) (base, text)) layer parents none held
