-- What is seen of a document and of a dynamic scope that a call gives.
use Rattle.std.specs.Prelude.{ℕ, List, String, string_bytes, option_map}
use Rattle.std.specs.declared.alloc.Global.{Global}
use Rattle.serde_json.specs.Data.{Data}
use Rattle.serde_json.specs.View.{view}
use Rattle.serde_json.specs.declared.value.Value.{Value}
use Rattle.ref_calls.specs.declared.scope.Kept.{Kept}
use Rattle.ref_calls.specs.declared.scope.GivenScope as rust
use Rattle.ref_calls.specs.Scopes.{GivenScope}

-- what is seen of a document
abbrev pub given_of : String Global × Value → List ℕ × Data
given_of d = (string_bytes d.0, view d.1)

-- the number and the URIs of a kept scope
abbrev pub kept_of : Kept → ℕ × List (List ℕ)
kept_of k = (k.number, k.uris.now)

-- what is seen of a dynamic scope
abbrev pub scope_given : rust.GivenScope → GivenScope
scope_given s = record { uris = s.uris; kept = option_map kept_of s.kept }
