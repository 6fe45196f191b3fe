-- How the places of a document follow from each other.
use Rattle.std.specs.Prelude.{⊤, List, [], ◌∷◌, ◌++◌}
use Rattle.std.specs.List.{Contains}
use Rattle.ref_definitions.specs.Places.{Place, children_of}

-- a place is a child of one of those before it
pub record IsChildOfOne (before : List Place) (p : Place) : Type 0 where
  pub parent : Place
  pub comes_before : Contains before parent
  pub child : Contains (children_of parent) p

-- each is a child of one before it
abbrev pub AreChildren : List Place → List Place → Type 0
AreChildren before [] = ⊤
AreChildren before (p ∷ ps) = IsChildOfOne before p × AreChildren (before ++ p ∷ []) ps
