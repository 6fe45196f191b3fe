-- Retrievers of the program as the definitions have them.
use Rattle.std.specs.Prelude.{ℕ, List, map, ⊤}
use Rattle.serde_json.specs.Data.{Data}
use Rattle.serde_json.specs.View.{view}
use Rattle.serde_json.specs.declared.value.Value.{Value}
use Rattle.ref_error.specs.declared.error.RetrieveError.{RetrieveError}
use Rattle.ref_error.specs.declared.error.RetrieveError.TheVariants.{Refused, Memory}
use Rattle.ref_error.specs.Errors.{reason_text}

-- where the error is a refusal, its text is such a one
abbrev pub IfRefused : RetrieveError → (List ℕ → Type 0) → Type 0
IfRefused (Refused reason) P = P (reason_text reason)
IfRefused (Memory error) P = ⊤

-- the trees of documents, each under its URI
abbrev pub trees_of : List (List ℕ × Value) → List (List ℕ × Data)
trees_of pairs = map (λ p. (p.0, view p.1)) pairs
