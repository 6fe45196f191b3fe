-- Which of a document's places an index has something of, for callers that have walked over them already.
use Rattle.std.specs.Prelude.{◌≡◌, List, [], ◌∷◌, flat_map}
use Rattle.ref_definitions.specs.World.{Document}
use Rattle.ref_definitions.specs.Places.{Place, root, places}
use Rattle.ref_definitions.specs.Resources.{resource_of}
use Rattle.ref_definitions.specs.Anchors.{named_at}
use Rattle.ref_definitions.specs.Wants.{Want, wants_at}
use Rattle.ref_definitions.specs.Agreement.{ChildrenAreThere}
use Rattle.ref_draft.specs.Children.{AllAreThere, walked_children}
use Rattle.ref_definitions.specs.Cached.{pairs_at}
use Rattle.ref_index.specs.Faults.{faults_of}

-- what a place wants
abbrev pub wants_of : Place → List Want
wants_of p = wants_at p.base p.value

-- each child of a place is at its path there
abbrev pub ChildrenAreAt : Place → Type 0
ChildrenAreAt p = AllAreThere p.value (walked_children p.draft p.value)

-- no identifier and no anchor of a place counts, it wants nothing, and nothing is resolved there
pub record IsLeftOut (p : Place) : Type 0 where
  pub resource : resource_of p ≡ []
  pub name : named_at p ≡ []
  pub want : wants_of p ≡ []
  pub pair : pairs_at p ≡ []

-- the second places are the first ones in their order, but for such places
pub data AreNoted : List Place → List Place → Type 0 where
  none : AreNoted [] []
  noted : (p : Place) (ps qs : List Place) → AreNoted ps qs → AreNoted (p ∷ ps) (p ∷ qs)
  left_out : (p : Place) (ps qs : List Place) → IsLeftOut p → AreNoted ps qs
      → AreNoted (p ∷ ps) qs

-- a document has no fault, and below its root these are its places of which an index has something
pub record IsListingOf (d : Document) (below : List Place) : Type 0 where
  pub noted : AreNoted (places d) (root d ∷ below)
  pub faultless : flat_map faults_of (places d) ≡ []
  pub children : ChildrenAreThere d
