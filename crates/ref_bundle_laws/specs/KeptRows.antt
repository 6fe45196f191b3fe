-- Look-ups among documents and in their bundle, side by side, for rows that compute.
use Prim.Native.String.{String as Literal}
use Rattle.std.specs.Prelude.{ℕ, List, [], ◌∷◌, codes, Result, Ok, Err}
use Rattle.serde_json.specs.Data.{Data}
use Rattle.ref_definitions.specs.Fault.{Fault}
use Rattle.ref_definitions.specs.World.{Document, Layer, World}
use Rattle.ref_definitions.specs.Lookup.{Found, lookup}
use Rattle.ref_bundle.specs.Bundle.{Bundle, BundleRefusal, bundle_at}
use Rattle.ref_bundle_laws.specs.Kept.{world_of_bundle}

-- the bundle of a document that has these others beside it, alone; no world where it is refused
abbrev world_of : Document → Result Bundle BundleRefusal → World
world_of top (Ok bundle) = world_of_bundle top bundle []
world_of top (Err refusal) = []

-- what a look-up returns: the value with its base, or the fault
pub data Seen : Type 0 where
  value : Data → List ℕ → Seen
  fault : Fault → Seen

abbrev seen_answer : Result Found Fault → Seen
seen_answer (Ok found) = value found.value found.resolver.base
seen_answer (Err f) = fault f

abbrev looked_up : World → Literal → Literal → Seen
looked_up world base reference =
    seen_answer (lookup world (record { base = codes base; scope = [] }) (codes reference))

-- a look-up from a base: in the bundle, and among the documents
abbrev pub both : Document → Layer → Literal → Literal → Seen × Seen
both top others base reference = (
  looked_up (world_of top (bundle_at ((top ∷ others) ∷ []) 0)) base reference,
  looked_up
      ((top ∷ others) ∷ []) base reference,
)

-- the same value with the same base in both
abbrev pub alike : Literal → Data → Seen × Seen
alike base found = (value found (codes base), value found (codes base))
