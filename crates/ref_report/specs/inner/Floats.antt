-- Requests without floats: one that holds a float is bad.
use Rattle.std.specs.Prelude.{◌≡◌, List, [], unwrap_or, false}
use Rattle.std.specs.List.{AllByRecursion}
use Rattle.serde_json.specs.Data.{Data}
use Rattle.serde_json.specs.Written.{has_float}
use Rattle.ref_definitions.specs.World.{Layer, World}
use Rattle.ref_report.specs.Request.{Document, Request}

-- no number in the tree is another than a whole number of 64 bits
abbrev pub HoldsNoFloat : Data → Type 0
HoldsNoFloat d = has_float d ≡ false

-- nor is one in the trees of documents
abbrev pub HoldNoFloats : List Document → Type 0
HoldNoFloats ds = AllByRecursion (λ d. HoldsNoFloat d.1) ds

-- nor in those of a request: its documents, what can be retrieved, and its meta-schemas
pub record RequestHoldsNoFloat (r : Request) : Type 0 where
  pub documents : HoldNoFloats r.documents
  pub remote : HoldNoFloats (unwrap_or r.remote [])
  pub meta : HoldNoFloats (unwrap_or r.meta [])

-- nor in those of a layer
abbrev pub LayerHoldsNoFloat : Layer → Type 0
LayerHoldsNoFloat layer = AllByRecursion (λ d. HoldsNoFloat d.tree) layer

-- nor in those of a world
abbrev pub WorldHoldsNoFloat : World → Type 0
WorldHoldsNoFloat world = AllByRecursion LayerHoldsNoFloat world
