-- What a sink takes of a server: what is said of documents, and answers.
use Rattle.std.specs.Prelude.{ℕ, List, [], ◌∷◌, ◌++◌, ◌⊎◌, codes, Option, Result, String}
use Rattle.std.specs.declared.alloc.Global.{Global}
use Rattle.std.specs.Io.KnownBytes.{Appends}
use Rattle.ref_protocol.specs.declared.refusal.Refusal.{Refusal}
use Rattle.ref_protocol.specs.Replies.{frame_of, answer_of}

-- what is said of a document: the notification `textDocument/publishDiagnostics` with its parameters
unfoldable pub note_with : List ℕ → List ℕ
note_with params =
    codes "{\"jsonrpc\":\"2.0\",\"method\":\"textDocument/publishDiagnostics\",\"params\":" ++ params
    ++ codes "}"

-- the frames of such notifications, one after another
abbrev pub notes_of : List (List ℕ) → List ℕ
notes_of [] = []
notes_of (params ∷ more) = frame_of (note_with params) ++ notes_of more

-- notifications were sent, or none, and nothing else
pub record SendsNotes (old : Option (List ℕ)) (new : Option (List ℕ)) : Type 0 where
  pub params : List (List ℕ)
  pub sent : Appends old new (notes_of params)

-- notifications were sent, or none, and then one answer to the request with an id
pub record SendsAnswer (id : List ℕ) (old : Option (List ℕ)) (new : Option (List ℕ)) : Type 0 where
  pub params : List (List ℕ)
  pub outcome : Result (String Global) Refusal
  pub sent : Appends old new (notes_of params ++ frame_of (answer_of id outcome))

-- the same, with one answer or none
abbrev pub SendsAtMost : List ℕ → Option (List ℕ) → Option (List ℕ) → Type 0
SendsAtMost id old new = SendsNotes old new ⊎ SendsAnswer id old new
