-- What preparing a registry may return. A relation, since the retriever may choose among the answers that it allows itself.
use Rattle.std.specs.Prelude.{◌≡◌, ℕ, suc, ◌<◌, ◌≤◌, List, [], ◌∷◌, ◌++◌, Result, Ok, Err}
use Rattle.serde_json.specs.Data.{Data}
use Rattle.ref_draft.specs.declared.draft.Draft.{Draft}
use Rattle.ref_uri.specs.Targets.{Refusal}
use Rattle.ref_definitions.specs.World.{Layer, World, document}
use Rattle.ref_definitions.specs.Wants.{Want, Cause, Reference, MetaSchema, faults, open_wants}
use Rattle.ref_definitions.specs.Fault.{Fault, Unretrievable, UnknownSpecification, InvalidUri, RetrievalLimit}

-- what a retriever may return for a URI, and with which text it may refuse
pub record Retriever : Type 1 where
  pub may_answer : List ℕ → Data → Type 0
  pub may_refuse : List ℕ → List ℕ → Type 0

-- what is given: the retriever, the limit, the draft of what is retrieved, the parents, and the documents that were added
pub record Given : Type 1 where
  pub retriever : Retriever
  pub limit : ℕ
  pub draft : Draft
  pub parents : World
  pub documents : Layer

-- of a layer without faults, a want is the first that is open
pub record IsNextWant (given : Given) (layer : Layer) (want : Want) : Type 0 where
  pub no_fault : faults layer ≡ []
  pub more : List Want
  pub first_open : open_wants (layer ∷ given.parents) layer ≡ want ∷ more

-- for the next want of a layer, the retriever may return a tree
pub record IsRetrieval (given : Given) (layer : Layer) (want : Want) (tree : Data) : Type 0 where
  pub next : IsNextWant given layer want
  pub answered : given.retriever.may_answer want.uri tree

-- A run after n retrieved documents: each was retrieved for the next want of the layer so far, and is put at its end.
pub data IsRun (given : Given) : ℕ → Layer → Type 0 where
  begun : IsRun given 0 given.documents
  retrieved : (n : ℕ) (layer : Layer) (want : Want) (tree : Data) → IsRun given n layer
      → IsRetrieval given layer want tree
      → IsRun given (suc n) (layer ++ document given.draft want.uri tree ∷ [])

-- the fault of a want that the retriever refuses with a text
abbrev pub refusal_fault : Cause → List ℕ → List ℕ → Fault
refusal_fault Reference uri text = Unretrievable uri text
refusal_fault MetaSchema uri text = UnknownSpecification uri

-- a run of at most the limit, whose layer has this first fault
pub record EndsAtFault (given : Given) (refusal : Refusal) : Type 0 where
  pub count : ℕ
  pub layer : Layer
  pub run : IsRun given count layer
  pub within : count ≤ given.limit
  pub more : List Refusal
  pub first_fault : faults layer ≡ refusal ∷ more

-- a run that used up the limit, and its next want
pub record EndsAtLimit (given : Given) (want : Want) : Type 0 where
  pub layer : Layer
  pub run : IsRun given given.limit layer
  pub next : IsNextWant given layer want

-- a run of less than the limit, whose next want the retriever may refuse with a text
pub record EndsAtRefusal (given : Given) (want : Want) (text : List ℕ) : Type 0 where
  pub count : ℕ
  pub layer : Layer
  pub run : IsRun given count layer
  pub below : count < given.limit
  pub next : IsNextWant given layer want
  pub refuses : given.retriever.may_refuse want.uri text

-- a run of at most the limit to a layer without faults and open wants
pub record EndsReady (given : Given) (layer : Layer) : Type 0 where
  pub count : ℕ
  pub run : IsRun given count layer
  pub within : count ≤ given.limit
  pub no_fault : faults layer ≡ []
  pub no_want : open_wants (layer ∷ given.parents) layer ≡ []

-- An outcome: the first fault; the limit, or a refusal that the retriever may give, where a want is open; or the layer, where
-- none is. Nothing else is one.
pub data IsOutcome (given : Given) : Result Layer Fault → Type 0 where
  faulty : (refusal : Refusal) → EndsAtFault given refusal
      → IsOutcome given (Err (InvalidUri refusal))
  limited : (want : Want) → EndsAtLimit given want
      → IsOutcome given (Err (RetrievalLimit want.uri given.limit))
  refused : (want : Want) (text : List ℕ) → EndsAtRefusal given want text
      → IsOutcome given (Err (refusal_fault want.cause want.uri text))
  ready : (layer : Layer) → EndsReady given layer → IsOutcome given (Ok layer)
