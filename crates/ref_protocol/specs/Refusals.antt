-- The codes of errors: JSON-RPC 2.0, 5.1, and the Language Server Protocol 3.17 ("ErrorCodes").
use Rattle.std.specs.Prelude.{ℕ, List, codes}
use Rattle.ref_protocol.specs.declared.refusal.Refusal.{Refusal}
use Rattle.ref_protocol.specs.declared.refusal.Refusal.TheVariants.{NoJson, NoRequest, NoMethod, NoParameters, NotInitialized, AfterShutdown, Memory, Failed}

abbrev pub code_of : Refusal → List ℕ
code_of NoJson = codes "-32700"
code_of NoRequest = codes "-32600"
code_of NoMethod = codes "-32601"
code_of NoParameters = codes "-32602"
code_of NotInitialized = codes "-32002"
code_of AfterShutdown = codes "-32600"
code_of Memory = codes "-32603"
code_of (Failed why) = codes "-32803"

-- what it says
abbrev pub text_of : Refusal → List ℕ
text_of NoJson = codes "The content is not JSON"
text_of NoRequest = codes "The content is not a request"
text_of NoMethod = codes "No such method"
text_of NoParameters = codes "The parameters are not those of the method"
text_of NotInitialized = codes "The server is not initialized"
text_of AfterShutdown = codes "The server is shut down"
text_of Memory = codes "Out of memory"
text_of (Failed why) = why.now
