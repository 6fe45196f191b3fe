-- How the places of a bundle come from those of its documents.
use Rattle.std.specs.Prelude.{◌≡◌, List, [], ◌∷◌}

-- one list is two others merged, each in its order
pub data IsMerge (X : Type 0) : List X → List X → List X → Type 0 where
  ended : IsMerge X [] [] []
  from_first : (x : X) (all xs ys : List X) → IsMerge X all xs ys → IsMerge X (x ∷ all) (x ∷ xs) ys
  from_second : (y : X) (all xs ys : List X) → IsMerge X all xs ys → IsMerge X (y ∷ all) xs (y ∷ ys)

-- one list is several others merged, each in its order
abbrev pub IsMergeOf : (X : Type 0) → List X → List (List X) → Type 0
IsMergeOf X all [] = all ≡ []
IsMergeOf X all (xs ∷ others) = (rest : List X) × IsMerge X all xs rest × IsMergeOf X rest others
