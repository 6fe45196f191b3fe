-- The texts that a server sends (JSON-RPC 2.0, 5; Language Server Protocol 3.17, "Base Protocol").
use Rattle.std.specs.Prelude.{ℕ, List, ◌++◌, codes, length, decimal, Result, Ok, Err, String, string_bytes}
use Rattle.std.specs.declared.alloc.Global.{Global}
use Rattle.ref_protocol.specs.declared.refusal.Refusal.{Refusal}
use Rattle.ref_protocol.specs.Refusals.{code_of, text_of}

-- an answer has the id of its request, and a member
unfoldable pub answer_with : List ℕ → List ℕ → List ℕ → List ℕ
answer_with id key value = codes "{\"jsonrpc\":\"2.0\",\"id\":" ++ id ++ key ++ value ++ codes "}"

-- its result
abbrev pub with_result : List ℕ → List ℕ → List ℕ
with_result id outcome = answer_with id (codes ",\"result\":") outcome

-- the object of an error
unfoldable pub error_of : Refusal → List ℕ
error_of refusal =
    codes "{\"code\":" ++ code_of refusal ++ codes ",\"message\":\"" ++ text_of refusal
    ++ codes "\"}"

-- why it has none
abbrev pub with_error : List ℕ → Refusal → List ℕ
with_error id refusal = answer_with id (codes ",\"error\":") (error_of refusal)

-- a content with its head
unfoldable pub frame_of : List ℕ → List ℕ
frame_of content = codes "Content-Length: " ++ decimal (length content) ++ codes "\r\n\r\n" ++ content

-- the answer to a request
abbrev pub answer_of : List ℕ → Result (String Global) Refusal → List ℕ
answer_of id (Ok outcome) = with_result id (string_bytes outcome)
answer_of id (Err refusal) = with_error id refusal
