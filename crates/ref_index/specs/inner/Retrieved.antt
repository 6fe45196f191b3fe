-- What a retriever returns for one want.
use Rattle.std.specs.Prelude.{◌≡◌, ℕ, List}
use Rattle.serde_json.specs.Data.{Data}
use Rattle.ref_draft.specs.declared.draft.Draft.{Draft}
use Rattle.ref_definitions.specs.World as world
use Rattle.ref_definitions.specs.World.{Document}
use Rattle.ref_definitions.specs.Wants.{Want}
use Rattle.ref_definitions.specs.Preparing.{Retriever, refusal_fault}
use Rattle.ref_error.specs.declared.error.Error.{Error}
use Rattle.ref_error.specs.Errors.{SaysFault, UnlessMemory}

-- a document that was retrieved for a URI: a tree that may be returned for it, under it
abbrev pub IsAnswerFor : Retriever → Draft → List ℕ → Document → Type 0
IsAnswerFor retriever draft uri d =
    (tree : Data) × retriever.may_answer uri tree × (d ≡ world.document draft uri tree)

-- the error says that the want was refused with a text that may be given for it, or is out of memory
abbrev pub IsRefusalOf : Retriever → Want → Error → Type 0
IsRefusalOf retriever want error =
    UnlessMemory
    ((text : List ℕ) × retriever.may_refuse want.uri text
    × SaysFault error (refusal_fault want.cause want.uri text)) error
