-- What retrieval adds to the documents, and when there is one outcome alone.
use Rattle.std.specs.Prelude.{◌≡◌, ℕ, ◌≤◌, Bool, IsTrue, ⊤, List, [], ◌∷◌, ◌++◌, length, None, Ok, Err, Result}
use Rattle.std.specs.List.{Contains, AllPairs}
use Rattle.serde_json.specs.Data.{Data}
use Rattle.ref_draft.specs.declared.draft.Draft.{Draft}
use Rattle.ref_uri.specs.Targets.{Refusal}
use Rattle.ref_definitions.specs.World.{Document, Layer, World, document}
use Rattle.ref_definitions.specs.Resources.{meant_place}
use Rattle.ref_definitions.specs.Fault.{Fault, InvalidUri, RetrievalLimit}
use Rattle.ref_definitions.specs.Wants.{Want, Cause, wants, faults, open_wants}
use Rattle.ref_definitions.specs.Preparing.{Given, IsRun, IsOutcome}

-- what is given with a retriever that two tests describe: which trees it may return for a URI, and with which texts it may refuse
abbrev pub given_by : (List ℕ → Data → Bool) → (List ℕ → List ℕ → Bool) → ℕ → Draft → World → Layer
    → Given
given_by answers refuses limit draft parents documents = record {
  retriever =
      record {
        may_answer = λ uri tree. IsTrue (answers uri tree);
        may_refuse = λ uri text. IsTrue (refuses uri text);
      };
  limit = limit;
  draft = draft;
  parents = parents;
  documents = documents;
}

-- A document was retrieved after others: one of them wanted its URI, which meant no place there nor in a parent, and it is a
-- tree that the retriever may return for it.
pub record IsRetrieved (given : Given) (before : Layer) (d : Document) : Type 0 where
  pub cause : Cause
  pub tree : Data
  pub wanted : Contains (wants before) (record { cause = cause; uri = d.uri })
  pub no_place : meant_place (before ∷ given.parents) d.uri ≡ None
  pub answered : given.retriever.may_answer d.uri tree
  pub is : d ≡ document given.draft d.uri tree

-- each was retrieved after those before it
abbrev pub AreRetrieved : Given → Layer → List Document → Type 0
AreRetrieved given before [] = ⊤
AreRetrieved given before (d ∷ ds) =
    IsRetrieved given before d × AreRetrieved given (before ++ d ∷ []) ds

-- A layer is the documents that were added and n that were retrieved after them, each under a URI of its own.
pub record IsClosure (given : Given) (n : ℕ) (layer : Layer) : Type 0 where
  pub retrieved : List Document
  pub is : layer ≡ given.documents ++ retrieved
  pub count : length retrieved ≡ n
  pub each : AreRetrieved given given.documents retrieved
  pub apart : AllPairs (λ d e. ¬ (d.uri ≡ e.uri)) retrieved

-- a layer that is ready: at most as many were retrieved as the limit lets, nothing is faulty, and no want is open
pub record IsReady (given : Given) (layer : Layer) : Type 0 where
  pub count : ℕ
  pub within : count ≤ given.limit
  pub closure : IsClosure given count layer
  pub no_fault : faults layer ≡ []
  pub no_want : open_wants (layer ∷ given.parents) layer ≡ []

-- a limit that is used up: as many were retrieved as it lets, and the want of a URI is the first that is open
pub record IsUsedUp (given : Given) (uri : List ℕ) (limit : ℕ) : Type 0 where
  pub is : limit ≡ given.limit
  pub layer : Layer
  pub closure : IsClosure given given.limit layer
  pub cause : Cause
  pub more : List Want
  pub open_want : open_wants (layer ∷ given.parents) layer
      ≡ record { cause = cause; uri = uri } ∷ more

-- documents without a fault and an open want are the one outcome
abbrev pub DocumentsAlone : Given → Result Layer Fault → Type 0
DocumentsAlone given answer =
    faults given.documents ≡ [] → open_wants (given.documents ∷ given.parents) given.documents ≡ []
    → IsOutcome given answer → answer ≡ Ok given.documents

-- the first fault of the documents is the one outcome
abbrev pub FirstFaultAlone : Given → Result Layer Fault → Type 0
FirstFaultAlone given answer =
    (refusal : Refusal) (more : List Refusal) → faults given.documents ≡ refusal ∷ more
    → IsOutcome given answer → answer ≡ Err (InvalidUri refusal)

-- what holds of runs and outcomes, whatever the retriever returns
pub record OutcomeLaws (given : Given) : Type 0 where
  pub retrieved : (n : ℕ) (layer : Layer) → IsRun given n layer → IsClosure given n layer
  pub ready : (layer : Layer) → IsOutcome given (Ok layer) → IsReady given layer
  pub used_up : (uri : List ℕ) (limit : ℕ) → IsOutcome given (Err (RetrievalLimit uri limit))
      → IsUsedUp given uri limit
  pub documents : (answer : Result Layer Fault) → DocumentsAlone given answer
  pub first_fault : (answer : Result Layer Fault) → FirstFaultAlone given answer

-- the same, whatever is given
abbrev pub OutcomesOfRetrieval : Type 0
OutcomesOfRetrieval =
    (answers : List ℕ → Data → Bool) (refuses : List ℕ → List ℕ → Bool) (limit : ℕ) (draft : Draft)
    (parents : World) (documents : Layer)
    → OutcomeLaws (given_by answers refuses limit draft parents documents)
