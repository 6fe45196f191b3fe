-- What the uses return.
use Rattle.std.specs.Prelude.{◌≡◌, ℕ, ◌++◌, ◌⊎◌, Bool, false, List, [], bytes_eq, codes, decimal, None, Ok}
use Rattle.std.specs.List.{Contains, list_any}
use Rattle.serde_json.specs.Data.{Data}
use Rattle.serde_json.specs.declared.value.Value.{Value}
use Rattle.referencing.specs.World.{World}
use Rattle.referencing.specs.Fault.{as_invalid_uri}
use Rattle.referencing.specs.Follow.{Step, Followed}
use Rattle.referencing.specs.Pending.{Pending, with_addition, given_of_builder}
use Rattle.referencing.specs.Preparing.{Retriever, Given}
use Rattle.referencing.specs.Retrievers.{default_retriever}
use Rattle.referencing.specs.Error.{Error}
use Rattle.referencing.specs.Errors.{IsFaultOf, error_text}
use Rattle.referencing.specs.Retrieving.{trees_of}
use Rattle.referencing.specs.Retrieval.{IsFaultyOutcome}
use Rattle.referencing.specs.declared.answer.AnswerError.{AnswerError}
use Rattle.referencing.specs.declared.answer.AnswerError.TheVariants as failure
use Rattle.referencing.specs.declared.steps.FollowError.{FollowError}
use Rattle.referencing.specs.Builder.{addition}
use Rattle.referencing.specs.Prepared.{IsPreparedOf}
use Rattle.referencing.specs.Answering.{Answers, IsFailureOf}

-- a tree that is under a URI in files
abbrev pub HasFile : List (List ℕ × Value) → List ℕ → Data → Type 0
HasFile files uri tree = Contains (trees_of files) (uri, tree)

-- whether a file is under a URI
abbrev pub has_file : List (List ℕ × Value) → List ℕ → Bool
has_file files uri = list_any (λ file. bytes_eq file.0 uri) files

-- the text of a refusal where no file is under the URI
abbrev pub SaysNoFile : List (List ℕ × Value) → List ℕ → List ℕ → Type 0
SaysNoFile files uri text =
    (has_file files uri ≡ false) × (text ≡ codes "no document under this URI")

-- the retriever that has these files: it may return a tree that is under the URI, and refuses a URI that no file is under
abbrev pub files_retriever : List (List ℕ × Value) → Retriever
files_retriever files = record { may_answer = HasFile files; may_refuse = SaysNoFile files }

-- a registry of one document above others, whose retriever fetches nothing
abbrev pub given_above : World → List Pending → Given
given_above parents pending =
    given_of_builder default_retriever 10000 None parents pending

-- a world that may be prepared of one document above others
abbrev pub IsPreparedAbove : World → List ℕ → Data → World → Type 0
IsPreparedAbove parents uri tree world =
    (pending : List Pending) × (with_addition [] (addition uri tree None) ≡ Ok pending)
    × IsPreparedOf (given_above parents pending) world

-- the error says that the document can't be added, or why it can't be prepared, or is out of memory
abbrev pub IsRefusedAbove : World → List ℕ → Data → Error → Type 0
IsRefusedAbove parents uri tree error =
    IsFaultOf (as_invalid_uri (with_addition [] (addition uri tree None))) error
    ⊎ ((pending : List Pending) × (with_addition [] (addition uri tree None) ≡ Ok pending)
    × IsFaultyOutcome (given_above parents pending) error)

-- the number of the step that finds no value, and the text of its fault
abbrev pub step_text : FollowError → List ℕ
step_text fault = codes "step " ++ decimal fault.step ++ codes ": " ++ error_text fault.error

-- what is shown of a failure; out of memory shows nothing
abbrev pub ShowsFailure : AnswerError → List ℕ → Type 0
ShowsFailure (failure.Prepare error) text = text ≡ error_text error
ShowsFailure (failure.Follow fault) text = text ≡ step_text fault
ShowsFailure (failure.Memory memory) text = ⊥

-- what is shown of a question: `found` where it has an answer, or else a failure that it may have
abbrev pub IsShown : Given → List ℕ → List Step → List ℕ → Type 0
IsShown given base steps text =
    ((answer : Followed) × Answers given base steps answer × (text ≡ codes "found"))
    ⊎ ((error : AnswerError) × IsFailureOf given base steps error × ShowsFailure error text)
