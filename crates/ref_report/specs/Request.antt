-- A request: the fields of one JSON object.
use Rattle.std.specs.Prelude.{ℕ, Bool, true, ◌&&◌, ◌||◌, List, [], ◌∷◌, codes, Option, Some, None, option_map, option_and_then, Result, Ok, Err, ok_or, is_some, bytes_eq, if◌then◌else◌}
use Rattle.std.specs.Result.{result_ok}
use Rattle.serde_json.specs.Data.{Data, null, boolean, number, string, array, object, Items, no_items, item, Members, no_members, member}
use Rattle.serde_json.specs.Find.{get, at, as_bool, as_str, as_array, as_object, as_number, as_u64}
use Rattle.serde_json.specs.Written.{has_float}
use Rattle.ref_json.specs.Text.{tree_of}
use Rattle.ref_uri.specs.Targets.{uri_of}
use Rattle.ref_draft.specs.declared.draft.Draft.{Draft}
use Rattle.ref_draft.specs.Names.{draft_named}
use Rattle.ref_report.specs.declared.request.BadRequest.{BadRequest}
use Rattle.ref_report.specs.declared.request.BadRequest.TheVariants as bad
use Rattle.ref_definitions.specs.Results.{◌>>=◌}

-- a document: the text of the URI under which it is added, and its tree
abbrev pub Document : Type 0
Document = List ℕ × Data

-- a step: a text is looked up, null is a recursive lookup, an object is entered
pub data Step : Type 0 where
  Lookup : List ℕ → Step
  Recursive : Step
  Enter : Data → Step

-- the fields of a request; what can be retrieved is under the URIs that its texts mean
pub record Request : Type 0 where
  pub documents : List Document
  pub base : List ℕ
  pub steps : List Step
  pub remote : Option (List (List ℕ × Data))
  pub meta : Option (List Document)
  pub draft : Option Draft
  pub limit : Option ℕ
  pub lint : Option Bool

-- ---- lists in JSON

-- what f gives of each item, if it gives something of each
abbrev pub every : {B : Type 0} → (Data → Option B) → Items → Option (List B)
every f no_items = Some []
every f (item d ds) = option_and_then (λ y. option_map (λ ys. y ∷ ys) (every f ds)) (f d)

-- an array whose items are each read by f
abbrev pub list_of : {B : Type 0} → (Data → Option B) → Data → Option (List B)
list_of f d = option_and_then (every f) (as_array d)

-- ---- the fields

-- `[text, schema]`: a text, a second item, and no third
abbrev pub document_of : Data → Option Document
document_of d =
    if is_some (at 2 d) then None
    else option_and_then
    (λ u. option_and_then (λ text. option_map (λ tree. (text, tree)) (at 1 d)) (as_str u))
    (at 0 d)

-- a list of `[text, schema]`
unfoldable pub documents_of : Data → Option (List Document)
documents_of d = list_of document_of d

-- a tree under the URI that its text means
abbrev pub retrievable_of : Data → Option (List ℕ × Data)
retrievable_of d =
    option_and_then (λ e. option_map (λ uri. (uri, e.1)) (result_ok (uri_of e.0)))
    (document_of d)

-- a list of such
unfoldable pub remote_of : Data → Option (List (List ℕ × Data))
remote_of d = list_of retrievable_of d

-- the URI that a text means
unfoldable pub base_of : Data → Option (List ℕ)
base_of d = option_and_then (λ text. result_ok (uri_of text)) (as_str d)

-- a text, null or an object
abbrev pub step_of : Data → Option Step
step_of null = Some Recursive
step_of (boolean b) = None
step_of (number n) = None
step_of (string s) = Some (Lookup s)
step_of (array ds) = None
step_of (object ms) = Some (Enter (object ms))

-- a list of steps
unfoldable pub steps_of : Data → Option (List Step)
steps_of d = list_of step_of d

-- the draft that a name stands for
unfoldable pub draft_of : Data → Option Draft
draft_of d = option_and_then draft_named (as_str d)

-- a whole number of 64 bits
abbrev pub limit_of : Data → Option ℕ
limit_of d = option_and_then as_u64 (as_number d)

-- true or false
abbrev pub lint_of : Data → Option Bool
lint_of d = as_bool d

-- a field that must be there
abbrev pub required_field : {A : Type 0} → BadRequest → (Data → Option A) → Option Data
    → Result A BadRequest
required_field bad f found = ok_or (option_and_then f found) bad

-- a field that may be absent
abbrev pub optional : {A : Type 0} → BadRequest → (Data → Option A) → Option Data
    → Result (Option A) BadRequest
optional bad f None = Ok None
optional bad f (Some d) = ok_or (option_map Some (f d)) bad

-- whether a request may have such a field
abbrev pub is_field : List ℕ → Bool
is_field name =
    bytes_eq name (codes "documents") || bytes_eq name (codes "base")
    || bytes_eq name (codes "steps") || bytes_eq name (codes "remote")
    || bytes_eq name (codes "meta") || bytes_eq name (codes "draft")
    || bytes_eq name (codes "limit") || bytes_eq name (codes "lint")

-- each key names a field
abbrev pub are_fields : Members → Bool
are_fields no_members = true
are_fields (member k d ms) = is_field k && are_fields ms

-- ---- the whole

-- the fields of an object, or the first that is bad
unfoldable pub fields_of : Data → Result Request BadRequest
fields_of d = do
  documents ← required_field bad.Documents documents_of (get (codes "documents") d)
  base ← required_field bad.Base base_of (get (codes "base") d)
  steps ← required_field bad.Steps steps_of (get (codes "steps") d)
  remote ← optional bad.Remote remote_of (get (codes "remote") d)
  meta ← optional bad.Meta documents_of (get (codes "meta") d)
  draft ← optional bad.Draft draft_of (get (codes "draft") d)
  limit ← optional bad.Limit limit_of (get (codes "limit") d)
  lint ← optional bad.Lint lint_of (get (codes "lint") d)
  Ok (record {
    documents = documents;
    base = base;
    steps = steps;
    remote = remote;
    meta = meta;
    draft = draft;
    limit = limit;
    lint = lint;
  })

-- the request that a tree is, or why it is none
unfoldable pub request_of : Data → Result Request BadRequest
request_of d = do
  members ← ok_or (as_object d) bad.NotAnObject
  (if has_float d then Err bad.Float
      else (if are_fields members then fields_of d else Err bad.UnknownField))

-- the request that bytes are, or why they are none
unfoldable pub read_request : List ℕ → Result Request BadRequest
read_request bytes = ok_or (tree_of bytes) bad.NotJson >>= request_of
