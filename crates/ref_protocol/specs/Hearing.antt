-- What is heard of a frame, and with which id it is answered (JSON-RPC 2.0, 5: the id of an answer is that of its request, and null where
-- that has none).
use Rattle.std.specs.Prelude.{◌≡◌, ℕ, List, Option, Some, None, String, string_bytes, codes}
use Rattle.std.specs.declared.alloc.Global.{Global}
use Rattle.std.specs.Str.{IsUtf8}
use Rattle.serde_json.specs.declared.value.Value.{Value}
use Rattle.serde_json.specs.View.{view}
use Rattle.serde_json.specs.Read.{read}
use Rattle.ref_protocol.specs.Calls.{id_in, IsIdText}

-- the text of the id of a message, where there is one that has one
abbrev pub IsKeptId : Option Value → Option (String Global) → Type 0
IsKeptId (Some message) id = IsIdText (id_in (view message)) id
IsKeptId None id = id ≡ None

-- bytes are a message, or no JSON
abbrev pub IsMessage : List ℕ → Option Value → Type 0
IsMessage content (Some message) = IsUtf8 content × (read content ≡ Some (view message))
IsMessage content None = IsUtf8 content → read content ≡ None

-- the message that a content is, where it is JSON, and its id, where it has one
abbrev pub IsHeard : List ℕ → Option Value → Option (String Global) → Type 0
IsHeard content message id = IsMessage content message × IsKeptId message id

-- the text of an id in an answer
abbrev pub id_shown : Option (String Global) → List ℕ
id_shown (Some id) = string_bytes id
id_shown None = codes "null"
