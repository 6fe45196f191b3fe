-- The documents that resolvers borrow, as the definitions have them.
use Rattle.std.specs.Prelude.{ℕ, List, ◌∷◌, map}
use Rattle.std.specs.List.{Contains, Any}
use Rattle.ref_definitions.specs.Cached.{pairs}
use Rattle.ref_definitions.specs.World.{World}
use Rattle.ref_resolver.specs.declared.layers.Layers.{Layers}

-- the world of an index before those of parents
abbrev pub world_in : Layers → World
world_in l = l.own.now ∷ map (λ p. p.now) l.parents.now

-- the text was resolved against the base when the documents of one of the layers were prepared
abbrev pub IsHeld : World → List ℕ → List ℕ → Type 0
IsHeld world base text = Any (λ layer. Contains (pairs layer) (base, text)) world
