-- The results of calls that ask no registry.
use Rattle.std.specs.Prelude.{ℕ, List, [], ◌∷◌, codes, Option, None, Some, Result, Ok, Err}
use Rattle.serde_json.specs.Data.{Data, string}
use Rattle.serde_json.specs.Find.{get}
use Rattle.ref_uri.specs.Targets.{uri_against}
use Rattle.ref_draft.specs.declared.draft.Draft.{Draft}
use Rattle.ref_draft.specs.Names.{draft_name}
use Rattle.ref_draft.specs.Schema.{detect}
use Rattle.ref_definitions.specs.Results.{◌>>=◌}
use Rattle.ref_definitions.specs.Fault.{as_invalid_uri}
use Rattle.ref_calls.specs.Objects.{object_of, texts, whole}
use Rattle.ref_calls.specs.Errors.{as_error, in_field}
use Rattle.ref_calls.specs.Calls.{call_names, required_member, text_in, uri_in, uri_at, draft_of, schema_of}

-- ---- hello

-- how deep a line may nest, and how many documents are retrieved at most where a call gives no limit
abbrev pub limit_members : List (List ℕ × Data)
limit_members = (codes "depth", whole 127) ∷ (codes "limit", whole 10000) ∷ []

-- the program, its version and that of the protocol, the names of the calls, and limits
abbrev pub hello_members : List (List ℕ × Data)
hello_members =
    (codes "program", string (codes "patchsard")) ∷ (codes "version", string (codes "0.1.0"))
    ∷ (codes "protocol", whole 1) ∷ (codes "calls", texts call_names)
    ∷ (codes "limits", object_of limit_members) ∷ []

-- `hello`
unfoldable pub hello_result : Data
hello_result = object_of hello_members

-- ---- uri

-- the URI under `base`, where it is there
abbrev pub base_at : Option Data → Result (Option (List ℕ)) Data
base_at None = Ok None
base_at (Some d) = uri_at (codes "base") d >>= λ base. Ok (Some base)

-- the URI that a text means, by itself or against a base (RFC 3986, 5.2 and 6.2.2)
abbrev pub uri_meant : Option (List ℕ) → List ℕ → Result (List ℕ) Data
uri_meant None reference = uri_in (codes "reference") reference
uri_meant (Some base) reference =
    in_field (codes "reference") (as_error (as_invalid_uri (uri_against base reference)))

-- the object of a URI
abbrev pub uri_object : List ℕ → Data
uri_object uri = object_of ((codes "uri", string uri) ∷ [])

-- `uri`
unfoldable pub uri_result : Data → Result Data Data
uri_result d = do
  base ← base_at (get (codes "base") d)
  value ← required_member (codes "reference") d
  reference ← text_in (codes "reference") value
  uri ← uri_meant base reference
  Ok (uri_object uri)

-- ---- draft

-- `draft`: the draft of a schema (2020-12 Core, 8.1.1)
unfoldable pub draft_result : Data → Result Data Data
draft_result d = do
  schema ← schema_of d
  draft ← draft_of d
  Ok (object_of ((codes "draft", string (draft_name (detect draft schema))) ∷ []))
