-- A call: which one an object is, and its members.
use Rattle.std.specs.Prelude.{ℕ, suc, Bool, true, false, ◌||◌, List, [], ◌∷◌, codes, Option, Some, None, option_map, option_and_then, Result, Ok, Err, ok_or, is_some, bytes_eq, if◌then◌else◌}
use Rattle.std.specs.List.{list_any}
use Rattle.std.specs.Option.{option_map_or}
use Rattle.serde_json.specs.Data.{Data, Items, no_items, item, Members, no_members, member}
use Rattle.serde_json.specs.Find.{get, as_bool, as_str, as_array, as_object, as_number, as_u64}
use Rattle.ref_uri.specs.Targets.{uri_of}
use Rattle.ref_draft.specs.declared.draft.Draft.{Draft}
use Rattle.ref_draft.specs.declared.draft.Draft.TheVariants.{Draft202012}
use Rattle.ref_draft.specs.Names.{draft_named}
use Rattle.ref_draft.specs.Schema.{trimmed_text}
use Rattle.ref_definitions.specs.Results.{◌>>=◌}
use Rattle.ref_definitions.specs.Fault.{as_invalid_uri}
use Rattle.ref_calls.specs.declared.call.Call.{Call}
use Rattle.ref_calls.specs.declared.call.Call.TheVariants.{Hello, Uri, DraftOf, Yaml, Faults, Open, Lookup, Recursive, Enter, Follow, Scope, Places, Survey, References, Dangling, Compare, Vocabularies, Bundle, Close}
use Rattle.ref_calls.specs.declared.fault.Wrong.TheVariants.{UnknownField, MissingField, InvalidField}
use Rattle.ref_calls.specs.Errors.{plain_error, with_field, field_error, as_error, in_field, at_index}

-- ---- the whole

-- the call that a name means
abbrev pub call_named : List ℕ → Option Call
call_named s =
    if bytes_eq s (codes "hello") then Some Hello
    else (if bytes_eq s (codes "uri") then Some Uri
    else (if bytes_eq s (codes "draft") then Some DraftOf
    else (if bytes_eq s (codes "yaml") then Some Yaml
    else (if bytes_eq s (codes "faults") then Some Faults
    else (if bytes_eq s (codes "open") then Some Open
    else (if bytes_eq s (codes "lookup") then Some Lookup
    else (if bytes_eq s (codes "recursive") then Some Recursive
    else (if bytes_eq s (codes "enter") then Some Enter
    else (if bytes_eq s (codes "follow") then Some Follow
    else (if bytes_eq s (codes "scope") then Some Scope
    else (if bytes_eq s (codes "places") then Some Places
    else (if bytes_eq s (codes "survey") then Some Survey
    else (if bytes_eq s (codes "references") then Some References
    else (if bytes_eq s (codes "dangling") then Some Dangling
    else (if bytes_eq s (codes "compare") then Some Compare
    else (if bytes_eq s (codes "vocabularies") then Some Vocabularies
    else (if bytes_eq s (codes "bundle") then Some Bundle
    else (if bytes_eq s (codes "close") then Some Close else None))))))))))))))))))

-- the names of all calls, in this order
abbrev pub call_names : List (List ℕ)
call_names =
    codes "hello" ∷ codes "uri" ∷ codes "draft" ∷ codes "yaml" ∷ codes "faults" ∷ codes "open"
    ∷ codes "lookup" ∷ codes "recursive" ∷ codes "enter" ∷ codes "follow" ∷ codes "scope"
    ∷ codes "places" ∷ codes "survey" ∷ codes "references" ∷ codes "dangling"
    ∷ codes "compare" ∷ codes "vocabularies" ∷ codes "bundle" ∷ codes "close" ∷ []

-- the members that a call knows besides `call` and `id`
abbrev pub fields_of : Call → List (List ℕ)
fields_of Hello = []
fields_of Uri = codes "base" ∷ codes "reference" ∷ []
fields_of DraftOf = codes "schema" ∷ codes "draft" ∷ []
fields_of Yaml = codes "text" ∷ []
fields_of Faults = codes "documents" ∷ codes "remote" ∷ codes "draft" ∷ []
fields_of Open =
    codes "documents" ∷ codes "remote" ∷ codes "parent" ∷ codes "draft" ∷ codes "limit"
    ∷ codes "faults" ∷ []
fields_of Lookup =
    codes "registry" ∷ codes "base" ∷ codes "scope" ∷ codes "reference" ∷ codes "values" ∷ []
fields_of Recursive = codes "registry" ∷ codes "base" ∷ codes "scope" ∷ codes "values" ∷ []
fields_of Enter =
    codes "registry" ∷ codes "base" ∷ codes "scope" ∷ codes "schema" ∷ codes "draft" ∷ []
fields_of Follow =
    codes "registry" ∷ codes "base" ∷ codes "scope" ∷ codes "values" ∷ codes "draft" ∷ codes "steps"
    ∷ []
fields_of Scope = codes "registry" ∷ codes "scope" ∷ []
fields_of Places = codes "registry" ∷ []
fields_of Survey = codes "registry" ∷ []
fields_of References = codes "registry" ∷ codes "document" ∷ codes "candidates" ∷ []
fields_of Dangling = codes "registry" ∷ []
fields_of Compare = codes "registry" ∷ codes "after" ∷ codes "moves" ∷ []
fields_of Vocabularies = codes "registry" ∷ codes "schema" ∷ codes "draft" ∷ []
fields_of Bundle = codes "registry" ∷ codes "document" ∷ []
fields_of Close = codes "registry" ∷ []

-- whether a call knows a member
abbrev pub is_known : Call → List ℕ → Bool
is_known call field =
    bytes_eq field (codes "call") || bytes_eq field (codes "id")
    || list_any (λ known. bytes_eq known field) (fields_of call)

-- the first member, in byte order, that a call doesn't know
abbrev pub unknown_in : Call → Members → Option (List ℕ)
unknown_in call no_members = None
unknown_in call (member k d ms) = if is_known call k then unknown_in call ms else Some k

-- a call, unless it doesn't know a member
abbrev pub unless_unknown : Call → Option (List ℕ) → Result Call Data
unless_unknown call None = Ok call
unless_unknown call (Some field) = Err (field_error UnknownField field)

abbrev pub not_an_object : Data
not_an_object = plain_error (codes "NotAnObject") (codes "The line is no JSON object")

abbrev pub unknown_call : Data
unknown_call =
    with_field (codes "call")
    (plain_error (codes "UnknownCall") (codes "The member 'call' names no call"))

-- the call that an object is, each of whose members it knows
unfoldable pub call_of : Data → Result Call Data
call_of d = do
  members ← ok_or (as_object d) not_an_object
  call ← ok_or
      (option_and_then call_named (option_and_then as_str (get (codes "call") d))) unknown_call
  unless_unknown call (unknown_in call members)

-- ---- members

-- a member that is needed
abbrev pub required_member : List ℕ → Data → Result Data Data
required_member field d = ok_or (get field d) (field_error MissingField field)

-- the text, the whole number of 64 bits and the items that a member is
abbrev pub text_in : List ℕ → Data → Result (List ℕ) Data
text_in field d = ok_or (as_str d) (field_error InvalidField field)

abbrev pub number_in : List ℕ → Data → Result ℕ Data
number_in field d = ok_or (option_and_then as_u64 (as_number d)) (field_error InvalidField field)

abbrev pub items_in : List ℕ → Data → Result Items Data
items_in field d = ok_or (as_array d) (field_error InvalidField field)

-- the URI that a text under a member means
abbrev pub uri_in : List ℕ → List ℕ → Result (List ℕ) Data
uri_in field text = in_field field (as_error (as_invalid_uri (uri_of text)))

-- the URI that a value means, which is to be a text
abbrev pub uri_at : List ℕ → Data → Result (List ℕ) Data
uri_at field d = text_in field d >>= uri_in field

-- what f gives of each item, to which it is given with its number, counted from this one on; the first error is the whole's
abbrev pub each_item : {B : Type 0} → (ℕ → Data → Result B Data) → ℕ → Items → Result (List B) Data
each_item f n no_items = Ok []
each_item f n (item d ds) = do
  x ← f n d
  xs ← each_item f (suc n) ds
  Ok (x ∷ xs)

-- whether a member is `true`; it isn't where it is missing
abbrev pub is_set_at : List ℕ → Option Data → Result Bool Data
is_set_at field None = Ok false
is_set_at field (Some d) = ok_or (as_bool d) (field_error InvalidField field)

abbrev pub is_set : List ℕ → Data → Result Bool Data
is_set field d = is_set_at field (get field d)

-- whether faults are kept: `faults` says so by the text `keep`, and else isn't there
abbrev pub keeps_in : Data → Result Bool Data
keeps_in d =
    if option_map_or (λ text. bytes_eq text (codes "keep")) (as_str d) false then Ok true
    else Err (field_error InvalidField (codes "faults"))

abbrev pub keeps_at : Option Data → Result Bool Data
keeps_at None = Ok false
keeps_at (Some d) = keeps_in d

unfoldable pub keeps_faults : Data → Result Bool Data
keeps_faults d = keeps_at (get (codes "faults") d)

-- the draft under `draft`, or else 2020-12
abbrev pub draft_at : Option Data → Result Draft Data
draft_at None = Ok Draft202012
draft_at (Some d) =
    ok_or (option_and_then draft_named (as_str d)) (field_error InvalidField (codes "draft"))

unfoldable pub draft_of : Data → Result Draft Data
draft_of d = draft_at (get (codes "draft") d)

-- an object or a boolean
abbrev pub schema_in : Data → Result Data Data
schema_in d =
    if is_some (as_object d) || is_some (as_bool d) then Ok d
    else Err (field_error InvalidField (codes "schema"))

unfoldable pub schema_of : Data → Result Data Data
schema_of d = required_member (codes "schema") d >>= schema_in

-- the URI under `base`
unfoldable pub base_of : Data → Result (List ℕ) Data
base_of d = required_member (codes "base") d >>= uri_at (codes "base")

-- ---- documents

-- `[text, schema]`: the text of a URI, a schema, and no third item
abbrev pub pair_of : Items → Option (List ℕ × Data)
pair_of (item uri (item tree no_items)) = option_map (λ text. (text, tree)) (as_str uri)
pair_of other = None

abbrev pub document_of : Data → Option (List ℕ × Data)
document_of d = option_and_then pair_of (as_array d)

-- one whose text means a URI, without `#` characters at its end
abbrev pub sound_document : List ℕ → Data → Result (List ℕ × Data) Data
sound_document field d = do
  document ← ok_or (document_of d) (field_error InvalidField field)
  uri ← uri_in field (trimmed_text document.0)
  Ok document

abbrev pub document_in : List ℕ → ℕ → Data → Result (List ℕ × Data) Data
document_in field n d = at_index n (sound_document field d)

-- a list of such
unfoldable pub documents_of : List ℕ → Data → Result (List (List ℕ × Data)) Data
documents_of field d = items_in field d >>= each_item (document_in field) 0

-- the documents under a member, where it is there
abbrev pub documents_at : List ℕ → Option Data → Result (Option (List (List ℕ × Data))) Data
documents_at field None = Ok None
documents_at field (Some d) = documents_of field d >>= λ documents. Ok (Some documents)

-- the documents under `documents`, which are needed
abbrev pub needed_documents : Option Data → Result (List (List ℕ × Data)) Data
needed_documents found =
    documents_at (codes "documents") found
    >>= λ documents. ok_or documents (field_error MissingField (codes "documents"))

-- documents under the URIs that their texts mean, without `#` characters at their end
abbrev pub under_uris : List ℕ → List (List ℕ × Data) → Result (List (List ℕ × Data)) Data
under_uris field [] = Ok []
under_uris field (e ∷ es) = do
  uri ← uri_in field (trimmed_text e.0)
  more ← under_uris field es
  Ok ((uri, e.1) ∷ more)
