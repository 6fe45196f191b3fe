-- What is seen of a call of `open`.
use Rattle.std.specs.Prelude.{◌≡◌, ℕ, List, [], ◌∷◌, ◌++◌, map, codes, Option, None, Some, option_map, option_and_then, slice_get, unwrap_or, Result, Ok, Err}
use Rattle.serde_json.specs.Data.{Data}
use Rattle.serde_json.specs.View.{view}
use Rattle.serde_json.specs.declared.value.Value.{Value}
use Rattle.ref_definitions.specs.World.{World}
use Rattle.ref_definitions.specs.Fault.{Fault}
use Rattle.ref_error.specs.Retrieving.{trees_of}
use Rattle.ref_json.specs.declared.stop.Stop.{Stop}
use Rattle.ref_json.specs.declared.stop.Stop.TheVariants.{Memory, Because}
use Rattle.ref_calls.specs.Errors.{fault_error, with_field}
use Rattle.ref_calls.specs.Given.{given_of}
use Rattle.ref_calls.specs.Objects.{list_of}
use Rattle.ref_serve.specs.declared.opening.Parent.{Parent}
use Rattle.ref_serve.specs.declared.opening.Parent.TheVariants.{Layers, MetaSchemas}
use Rattle.ref_serve.specs.declared.opening.Wanted.{Wanted}
use Rattle.ref_serve.specs.declared.opening.Opened.{Opened}
use Rattle.ref_serve.specs.declared.opening.Prepared.{Prepared}
use Rattle.ref_serve.specs.declared.opening.Added.{Added}
use Rattle.std.specs.declared.vec.Vec.{Vec}
use Rattle.std.specs.declared.alloc.Global.{Global}
use Rattle.ref_serve.specs.State.{OpenRegistry, Registries, open_at}
use Rattle.ref_serve.specs.Opening as spec

-- the world of the open registry with a number, or that without layers
abbrev pub world_at : Registries → Option ℕ → World
world_at state number =
    unwrap_or (option_map (λ o. o.0) (option_and_then (λ n. open_at state n) number)) []

-- what a new registry is above: the open registry with the first of these numbers
abbrev pub layers_at : Registries → List ℕ → OpenRegistry
layers_at state numbers = (world_at state (slice_get numbers 0), numbers)

abbrev pub parent_view : Registries → Parent → spec.Parent
parent_view state (Layers numbers) = spec.AboveLayers (layers_at state numbers.items)
parent_view state (MetaSchemas documents) = spec.AboveMetaSchemas (map given_of documents.items)

abbrev pub opening_view : Wanted → spec.Opening
opening_view w =
    record {
      draft = w.draft;
      limit = w.limit;
      documents = map given_of w.documents.items;
      remote = trees_of w.remote;
      keeps = w.keeps;
    }

abbrev pub asked_view : Registries → Parent × Wanted → spec.Parent × spec.Opening
asked_view state asked = (parent_view state asked.0, opening_view asked.1)

-- the members of the result that tell of faults, where they are kept
abbrev pub faults_members : Option (Vec Value Global) → List (List ℕ × Data)
faults_members None = []
faults_members (Some faults) = (codes "faults", list_of (map view faults.items)) ∷ []

-- what is prepared of what is asked
abbrev pub prepared_view : Prepared → spec.Prepared
prepared_view p =
    record { opening = opening_view p.wanted; members = faults_members p.faults }

-- it may be prepared above parents, unless memory ran out
abbrev pub GivesPrepared : spec.Opening → World → Result Prepared (Stop Value) → Type 0
GivesPrepared o parents (Ok p) = spec.IsPrepared o parents (Ok (prepared_view p))
GivesPrepared o parents (Err Memory) = Unit {0}
GivesPrepared o parents (Err (Because value)) = spec.IsPrepared o parents (Err (view value))

-- what is opened, and the registries with it after the others, unless memory ran out
abbrev pub GivesOpened : (Registries → Result Data Data → Type 0) → Registries
    → Result Opened (Stop Value) → Type 0
GivesOpened may state (Ok opened) = may (state ++ opened.registries.items) (Ok (view opened.result))
GivesOpened may state (Err Memory) = Unit {0}
GivesOpened may state (Err (Because value)) = may state (Err (view value))

-- an open registry above layers, or a fault's error, unless memory ran out
abbrev pub IsWorldOr : spec.Opening → OpenRegistry → Result OpenRegistry (Stop Value) → Type 0
IsWorldOr o layers (Ok added) =
    spec.IsOpeningWorld o layers.0 (Ok added.0) × (added.1 ≡ layers.1)
IsWorldOr o layers (Err Memory) = Unit {0}
IsWorldOr o layers (Err (Because value)) =
    (fault : Fault) × spec.IsOpeningWorld o layers.0 (Err fault) × (view value ≡ fault_error fault)

-- an open registry of what was prepared, with its faults
abbrev pub IsAddedFrom : OpenRegistry → Added → spec.Prepared → Type 0
IsAddedFrom layers added p =
    spec.IsOpeningWorld p.opening layers.0 (Ok added.registry.0) × (added.registry.1 ≡ layers.1)
    × (p.members ≡ faults_members added.faults)

-- the error of what can't be prepared, or its fault's
abbrev pub IsErrorFrom : OpenRegistry → Data → Result spec.Prepared Data → Type 0
IsErrorFrom layers error (Ok p) =
    (fault : Fault) × spec.IsOpeningWorld p.opening layers.0 (Err fault)
    × (error ≡ fault_error fault)
IsErrorFrom layers error (Err other) = error ≡ other

-- what is asked is prepared and opened above layers, unless memory ran out
abbrev pub IsAddedOr : spec.Opening → OpenRegistry → Result Added (Stop Value) → Type 0
IsAddedOr o layers (Ok added) =
    (p : spec.Prepared) × spec.IsPrepared o layers.0 (Ok p) × IsAddedFrom layers added p
IsAddedOr o layers (Err Memory) = Unit {0}
IsAddedOr o layers (Err (Because value)) =
    (prepared : Result spec.Prepared Data) × spec.IsPrepared o layers.0 prepared
    × IsErrorFrom layers (view value) prepared

-- the same of meta-schemas
abbrev pub IsMetaWorldOr : List (List ℕ × Data) → Result OpenRegistry (Stop Value) → Type 0
IsMetaWorldOr documents (Ok added) = spec.IsMetaWorld documents (Ok added.0) × (added.1 ≡ [])
IsMetaWorldOr documents (Err Memory) = Unit {0}
IsMetaWorldOr documents (Err (Because value)) =
    (fault : Fault) × spec.IsMetaWorld documents (Err fault)
    × (view value ≡ with_field (codes "parent") (fault_error fault))
