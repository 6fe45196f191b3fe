-- What preparing returns, by what is given.
use Rattle.std.specs.Prelude.{ℕ, List, Err}
use Rattle.serde_json.specs.Data.{Data}
use Rattle.ref_draft.specs.declared.draft.Draft.{Draft}
use Rattle.ref_definitions.specs.World.{Layer, World}
use Rattle.ref_definitions.specs.Fault.{Fault}
use Rattle.ref_definitions.specs.Preparing.{Retriever, Given, IsOutcome}
use Rattle.ref_error.specs.declared.error.Error.{Error}
use Rattle.ref_error.specs.Errors.{SaysFault, UnlessMemory}

-- what is given: the retriever, the limit, the draft, the parents and the documents
abbrev pub given_with : Retriever → ℕ → Draft → World → Layer → Given
given_with retriever limit draft parents documents = record {
  retriever = retriever;
  limit = limit;
  draft = draft;
  parents = parents;
  documents = documents;
}

-- the error says a fault that is an outcome; out of memory says none, and may come at any time
abbrev pub IsFaultyOutcome : Given → Error → Type 0
IsFaultyOutcome given_with error =
    UnlessMemory ((fault : Fault) × IsOutcome given_with (Err fault) × SaysFault error fault) error
