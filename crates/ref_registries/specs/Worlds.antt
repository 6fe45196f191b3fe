-- The worlds of documents that are given.
use Rattle.std.specs.Prelude.{◌≡◌, ℕ, List, [], ◌∷◌, map, Option, None, Result, Ok, Err}
use Rattle.serde_json.specs.Data.{Data}
use Rattle.ref_uri.specs.Targets.{Refusal}
use Rattle.ref_draft.specs.declared.draft.Draft.{Draft}
use Rattle.ref_definitions.specs.World.{Layer, World}
use Rattle.ref_definitions.specs.Fault.{Fault, InvalidUri}
use Rattle.ref_definitions.specs.Preparing.{Given, IsOutcome}
use Rattle.ref_definitions.specs.Pending.{Addition, Pending, with_additions}
use Rattle.ref_error.specs.declared.error.Error.{Error}
use Rattle.ref_error.specs.Errors.{SaysFault, UnlessMemory}
use Rattle.referencing.specs.Builder.{addition}

-- ---- what is added

-- the pending documents of a list, each by its text, its tree and its draft where it has one; or why a text means no URI
abbrev pub pending_of_documents : {U T : Type 0} → (U → List ℕ) → (T → Data) → (T → Option Draft)
    → List (U × T) → Result (List Pending) Refusal
pending_of_documents text tree draft documents =
    with_additions [] (map (λ d. addition (text d.0) (tree d.1) (draft d.1)) documents)

-- a text and a tree are added as a value: its draft is detected
abbrev pub addition_of : List ℕ × Data → Addition
addition_of d = addition d.0 d.1 None

-- the pending documents of a list of these, or why the text of one means no URI
abbrev pub pending_of : List (List ℕ × Data) → Result (List Pending) Refusal
pending_of documents = with_additions [] (map addition_of documents)

-- ---- what is prepared

-- the layer of an outcome, before its parents
abbrev pub above_parents : World → Result Layer Fault → Result World Fault
above_parents parents (Ok layer) = Ok (layer ∷ parents)
above_parents parents (Err fault) = Err fault

-- the fault of the first text that means no URI, or else an outcome of preparing
abbrev pub IsWorld : (List Pending → Given) → Result (List Pending) Refusal → Result World Fault
    → Type 0
IsWorld given (Ok pending) world =
    (outcome : Result Layer Fault) × IsOutcome (given pending) outcome
    × (world ≡ above_parents (given pending).parents outcome)
IsWorld given (Err refusal) world = world ≡ Err (InvalidUri refusal)

-- ---- what an error says

-- a fault that may be the answer, unless memory ran out
abbrev pub IsErrorOf : {A : Type 0} → (Result A Fault → Type 0) → Error → Type 0
IsErrorOf MayAnswer e = UnlessMemory ((fault : Fault) × MayAnswer (Err fault) × SaysFault e fault) e
