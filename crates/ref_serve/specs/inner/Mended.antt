-- What is seen of documents that are mended.
use Rattle.std.specs.Prelude.{◌≡◌, List, [], ◌∷◌, map, Option, option_map, unwrap_or, Result, Ok, Err, ℕ, codes}
use Rattle.serde_json.specs.Data.{Data}
use Rattle.serde_json.specs.View.{view}
use Rattle.serde_json.specs.declared.value.Value.{Value}
use Rattle.std.specs.Borrow.{Bor}
use Rattle.ref_definitions.specs.World.{World}
use Rattle.ref_draft.specs.declared.draft.Draft.{Draft}
use Rattle.ref_definitions.specs.Retrievers.{map_retriever}
use Rattle.ref_findings.specs.declared.gathering.Held.{Held}
use Rattle.ref_findings.specs.Held.{held_source}
use Rattle.ref_findings.specs.Sources.{Source}
use Rattle.ref_findings.specs.Gathered.{IsGathered}
use Rattle.ref_serve.specs.Faults.{sources_under}
use Rattle.std.specs.declared.vec.Vec.{Vec}
use Rattle.std.specs.declared.alloc.Global.{Global}
use Rattle.ref_json.specs.declared.stop.Stop.{Stop}
use Rattle.ref_json.specs.declared.stop.Stop.TheVariants.{Memory, Because}
use Rattle.ref_calls.specs.Given.{given_of}
use Rattle.ref_calls.specs.Outcome.{Stops}
use Rattle.ref_serve.specs.declared.mending.InPlace.{InPlace}
use Rattle.ref_serve.specs.declared.mending.MendedDocuments as rust
use Rattle.ref_serve.specs.Mending.{Mended}

-- the world of a registry, or that without layers
abbrev pub world_above : Option (Bor World) → World
world_above above = unwrap_or (option_map (λ r. r.now) above) []

-- the tree that is prepared in place of another, where there is one
abbrev pub tree_maybe : Option Value → Option Data
tree_maybe tree = option_map view tree

-- documents with these trees
abbrev pub with_trees : List (List ℕ × Data) → List (Option Data) → List (List ℕ × Data)
with_trees [] trees = []
with_trees (d ∷ ds) [] = d ∷ ds
with_trees (d ∷ ds) (tree ∷ trees) = (d.0, unwrap_or tree d.1) ∷ with_trees ds trees

-- what a retriever of these gives for documents, unless memory ran out
abbrev pub AreGathered : Draft → ℕ → List (List ℕ × Data) → Result (List Source) Data → List Source
    → Type 0
AreGathered draft limit remote (Ok sources) gathered =
    IsGathered (map_retriever remote) draft sources limit gathered
AreGathered draft limit remote (Err error) gathered = ⊥

abbrev pub GivesHeld : Draft → ℕ → List (List ℕ × Data) → List (List ℕ × Data)
    → Result (Vec Held Global) (Stop Value) → Type 0
GivesHeld draft limit remote documents (Ok held) =
    AreGathered draft limit remote (sources_under (codes "documents") documents)
    (map held_source held.items)
GivesHeld draft limit remote documents (Err stop) =
    Stops stop (sources_under (codes "documents") documents)

-- what is prepared in place of documents above parents, unless memory ran out
abbrev pub GivesInPlace : List (List ℕ × Data) → Result Mended Data → Result InPlace (Stop Value)
    → Type 0
GivesInPlace documents defined (Ok p) =
    (m : Mended) × (defined ≡ Ok m)
    × (with_trees documents (map tree_maybe p.trees.items) ≡ m.documents)
    × (map view p.faults.items ≡ m.faults)
GivesInPlace documents defined (Err stop) = Stops stop defined

-- documents as they are mended
abbrev pub mended_view : rust.MendedDocuments → Mended
mended_view m =
    record { documents = map given_of m.documents.items; faults = map view m.faults.items }

-- they may be, unless memory ran out
abbrev pub GivesMended : (Result Mended Data → Type 0) → Result rust.MendedDocuments (Stop Value) → Type 0
GivesMended may (Ok m) = may (Ok (mended_view m))
GivesMended may (Err Memory) = Unit {0}
GivesMended may (Err (Because value)) = may (Err (view value))
