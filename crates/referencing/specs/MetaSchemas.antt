-- Registries of meta-schemas.
use Rattle.std.specs.Prelude.{ℕ, List, [], None, Result, Ok, Err}
use Rattle.std.specs.Borrow.{Bor}
use Rattle.serde_json.specs.View.{view}
use Rattle.serde_json.specs.declared.value.Value.{Value}
use Rattle.ref_uri.specs.Targets.{Refusal}
use Rattle.ref_definitions.specs.Fault.{as_invalid_uri}
use Rattle.ref_definitions.specs.Preparing.{Given}
use Rattle.ref_definitions.specs.Retrievers.{default_retriever}
use Rattle.ref_definitions.specs.Pending.{Addition, Pending, given_of_builder}
use Rattle.ref_error.specs.declared.error.Error.{Error}
use Rattle.ref_error.specs.Errors.{IsFaultOf}
use Rattle.ref_index.specs.Retrieval.{IsFaultyOutcome}
use Rattle.referencing.specs.Builder.{addition}

-- a meta-schema under its text is added as a value, without a draft
abbrev pub meta_addition : Bor (List ℕ) × Bor Value → Addition
meta_addition pair = addition pair.0.now (view pair.1.now) None

-- they are prepared without a draft and parents, by the default retriever
abbrev pub given_of_meta_schemas : List Pending → Given
given_of_meta_schemas pending = given_of_builder default_retriever 10000 None [] pending

-- the error is that of the first text that means no URI, or, where all mean one, that of what is prepared
abbrev pub IsMetaSchemaFault : Result (List Pending) Refusal → Error → Type 0
IsMetaSchemaFault (Ok pending) error = IsFaultyOutcome (given_of_meta_schemas pending) error
IsMetaSchemaFault (Err refusal) error =
    IsFaultOf {A = List Pending} (as_invalid_uri (Err refusal)) error
