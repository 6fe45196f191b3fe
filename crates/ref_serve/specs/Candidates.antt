-- Where a dynamic reference may lead by the dynamic scope: to which of the places of a registry's own documents.
use Rattle.std.specs.Prelude.{ℕ, Bool, false, not, ◌&&◌, ◌||◌, ◌==◌, List, [], ◌∷◌, map, filter, length, codes, bytes_eq, is_some, if◌then◌else◌, Option, None, Some, Result, Ok, Err}
use Rattle.std.specs.List.{list_any}
use Rattle.serde_json.specs.Data.{Data}
use Rattle.ref_uri.specs.Targets.{fragment_part}
use Rattle.ref_draft.specs.declared.draft.Draft.{Draft}
use Rattle.ref_draft.specs.Schema.{identifier}
use Rattle.ref_draft.specs.Anchors.{Kind, anchors}
use Rattle.ref_definitions.specs.Fault.{Fault}
use Rattle.ref_definitions.specs.Listing.{Listed}
use Rattle.ref_definitions.specs.Lookup.{Found, is_dynamic}
use Rattle.ref_definitions.specs.Recursive.{is_marked}
use Rattle.ref_calls.specs.Objects.{object_of, list_of}
use Rattle.ref_serve.specs.Scopes.{is_pointer}
use Rattle.ref_serve.specs.Listings.{site_members}

-- by what the scope chooses: the name of a dynamic anchor (2020-12 Core, 8.2.3.2), or `$recursiveAnchor` (2019-09 Core, 8.2.4.2.2)
pub data Choice : Type 0 where
  Named : List ℕ → Choice
  Recursive : Choice

-- whether an anchor is the dynamic one with a name
abbrev pub is_dynamic_anchor : List ℕ → List ℕ × Kind → Bool
is_dynamic_anchor name a = is_dynamic a.1 && bytes_eq a.0 name

-- whether a value has it
abbrev pub has_dynamic : List ℕ → Draft → Data → Bool
has_dynamic name draft value = list_any (is_dynamic_anchor name) (anchors draft value)

-- the choice of a reference under a keyword whose text leads to a value, where there is one
abbrev pub named_choice : List ℕ → Draft → Data → Option Choice
named_choice name draft value =
    if not (is_pointer name) && has_dynamic name draft value then Some (Named name) else None

abbrev pub recursive_choice : Data → Option Choice
recursive_choice value = if is_marked value then Some Recursive else None

abbrev pub choice_of : List ℕ → List ℕ → Draft → Data → Option Choice
choice_of keyword text draft value =
    if bytes_eq keyword (codes "$dynamicRef") then
    named_choice (fragment_part text) draft value
    else (if bytes_eq keyword (codes "$recursiveRef") then recursive_choice value else None)

-- the same of what is found by it
abbrev pub choice_at : List ℕ → List ℕ → Result Found Fault → Option Choice
choice_at keyword text (Ok found) = choice_of keyword text found.draft found.value
choice_at keyword text (Err fault) = None

-- whether a place is the root of a resource: that of a document, or one with an identifier
abbrev pub is_root : Listed → Bool
is_root p = (length p.path == 0) || is_some (identifier p.draft p.value)

-- whether it may be chosen
abbrev pub is_candidate : Choice → Listed → Bool
is_candidate (Named name) p = has_dynamic name p.draft p.value
is_candidate Recursive p = is_root p && is_marked p.value

-- the objects of those places that may be, in order
abbrev pub candidates : Choice → List Listed → List Data
candidates choice places =
    map (λ p. object_of (site_members p.document p.path)) (filter (is_candidate choice) places)

-- the member of these
abbrev pub candidate_members : List Listed → Option Choice → List (List ℕ × Data)
candidate_members places None = []
candidate_members places (Some choice) =
    (codes "candidates", list_of (candidates choice places)) ∷ []
