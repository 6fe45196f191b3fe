-- Where in the documents of a call what an error of `open` tells is: at the place of the first item of what `faults` lists of them
-- that tells the same.
use Rattle.std.specs.Prelude.{ℕ, Bool, false, List, [], codes, bytes_eq, is_some, if◌then◌else◌, Option, None, Some, option_map, option_and_then, unwrap_or, Result, Ok, Err}
use Rattle.std.specs.Option.{option_map_or}
use Rattle.serde_json.specs.Data.{Data, Items, no_items, item}
use Rattle.serde_json.specs.Find.{get, as_array}
use Rattle.ref_draft.specs.declared.draft.Draft.{Draft}
use Rattle.ref_draft.specs.declared.draft.Draft.TheVariants.{Draft202012}
use Rattle.ref_draft.specs.Schema.{text_under}
use Rattle.ref_definitions.specs.Results.{◌>>=◌}
use Rattle.ref_calls.specs.Errors.{with_member, with_field}
use Rattle.ref_calls.specs.Calls.{draft_of, documents_at}
use Rattle.ref_serve.specs.Faults.{faults_of}

-- ---- which item

-- whether two texts are there and the same
abbrev pub are_same : Option (List ℕ) → Option (List ℕ) → Bool
are_same None t = false
are_same (Some s) None = false
are_same (Some s) (Some t) = bytes_eq s t

-- the member by which an error is known: the document that is wanted, where it names one, or else what it says
abbrev pub known_by : Data → List ℕ
known_by error = if is_some (text_under (codes "uri") error) then codes "uri" else codes "message"

-- whether two errors tell the same
abbrev pub tells_same : Data → Data → Bool
tells_same error other =
    are_same (text_under (known_by error) error) (text_under (known_by error) other)

-- whether an item of the list tells an error
abbrev pub is_told_by : Data → Data → Bool
is_told_by error one = option_map_or (tells_same error) (get (codes "error") one) false

-- the first that does
abbrev pub first_told : Data → Items → Option Data
first_told error no_items = None
first_told error (item one more) = if is_told_by error one then Some one else first_told error more

-- ---- the place

-- an error with a member of an item
abbrev pub with_same : List ℕ → Data → Data → Data
with_same key one error = option_map_or (λ value. with_member key value error) (get key one) error

-- with the number of its document, and the pointer there
abbrev pub at_place : Data → Data → Data
at_place error one = with_same (codes "pointer") one (with_same (codes "document") one error)

-- what `faults` lists of the documents under a member alone
unfoldable pub faults_under : List ℕ → Draft → Data → Result Data Data
faults_under field draft d = do
  documents ← documents_at field (get field d)
  faults_of draft (unwrap_or documents []) []

-- an error with its place in these, where one of them tells it
abbrev pub placed_in : Data → Result Data Data → Option Data
placed_in error (Ok list) =
    option_map (at_place error) (option_and_then (first_told error) (as_array list))
placed_in error (Err other) = None

-- ---- the whole

-- an error of a document: its place is in `documents`, or else in `remote`
abbrev pub placed_own : Draft → Data → Data → Data
placed_own draft d error =
    unwrap_or (placed_in error (faults_under (codes "documents") draft d))
    (unwrap_or
    (option_map (with_field (codes "remote"))
    (placed_in error (faults_under (codes "remote") draft d))) error)

-- by the draft of the call
abbrev pub placed_by : Result Draft Data → Data → Data → Data
placed_by (Ok draft) d error = placed_own draft d error
placed_by (Err other) d error = error

-- an error of a meta-schema under `parent`, where 2020-12 is the draft of those without `$schema`
abbrev pub placed_parent : List ℕ → Data → Data → Data
placed_parent field d error =
    if bytes_eq field (codes "parent") then
    unwrap_or (placed_in error (faults_under (codes "parent") Draft202012 d)) error
    else error

-- an error, by the member that it is about
abbrev pub placed_as : Option (List ℕ) → Data → Data → Data
placed_as None d error = placed_by (draft_of d) d error
placed_as (Some field) d error = placed_parent field d error

-- an error of a call with its place
unfoldable pub placed : Data → Data → Data
placed d error = placed_as (text_under (codes "field") error) d error
