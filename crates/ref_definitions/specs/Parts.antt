-- The values in the documents of a world.
use Rattle.std.specs.Prelude.{◌≡◌, List, Some}
use Rattle.std.specs.List.{AllByRecursion, Contains}
use Rattle.serde_json.specs.Data.{Data}
use Rattle.ref_paths.specs.Path.{Part, value_at}
use Rattle.ref_draft.specs.UniqueKeys.{HasUniqueKeys}
use Rattle.ref_definitions.specs.World.{Document, Layer, World}
use Rattle.ref_definitions.specs.Agreement.{ChildrenAreThere}

-- a value is at a path of the tree of a document
pub record IsPartOf (world : World) (value : Data) : Type 0 where
  pub layer : Layer
  pub document : Document
  pub path : List Part
  pub in_world : Contains world layer
  pub in_layer : Contains layer document
  pub there : value_at document.tree path ≡ Some value

-- it holds of each document of a world
abbrev pub AllDocuments : (Document → Type 0) → World → Type 0
AllDocuments P world = AllByRecursion (λ layer. AllByRecursion P layer) world

-- the children of each place of each document are at their paths
abbrev pub AllChildrenAreThere : World → Type 0
AllChildrenAreThere world = AllDocuments ChildrenAreThere world

-- each object of each document has each key once
abbrev pub AllHaveUniqueKeys : World → Type 0
AllHaveUniqueKeys world = AllDocuments (λ d. HasUniqueKeys d.tree) world
