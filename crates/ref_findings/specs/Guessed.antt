-- Documents whose root names no meta-schema: they are read by the draft of those that name none, and others may mean another one.
use Rattle.std.specs.Prelude.{ℕ, Bool, true, false, ◌&&◌, ◌||◌, not, ◌==◌, is_some, bytes_eq, List, [], ◌∷◌, flat_map, codes, if◌then◌else◌, Option, option_and_then, slice_get}
use Rattle.std.specs.Option.{option_map_or, option_or}
use Rattle.std.specs.List.{enumerate_from}
use Rattle.serde_json.specs.Data.{Data}
use Rattle.serde_json.specs.Find.{get, as_array}
use Rattle.ref_draft.specs.declared.draft.Draft.{Draft}
use Rattle.ref_draft.specs.declared.draft.Draft.TheVariants.{Draft202012}
use Rattle.ref_draft.specs.Keywords.{is_unknown}
use Rattle.ref_draft.specs.Order.{rank}
use Rattle.ref_draft.specs.Schema.{text_under}
use Rattle.ref_parts.specs.Table.{Entry}
use Rattle.ref_definitions.specs.Places.{Place}
use Rattle.ref_definitions.specs.Resources.{own_uri}
use Rattle.ref_definitions.specs.Wants.{schema_at}
use Rattle.ref_findings.specs.Places.{is_refused, nearest_base}
use Rattle.ref_findings.specs.Sources.{under_uri}
use Rattle.ref_findings.specs.Bearers.{Site, first_under}
use Rattle.ref_findings.specs.Gathered.{referred_uri}

-- whether a root names no meta-schema: a `$schema` that means no URI counts as none
abbrev pub is_guessed : Data → Bool
is_guessed tree =
    not (is_some (text_under (codes "$schema") tree)) || is_refused (schema_at tree)

-- whether a place is of a known draft that isn't this one
abbrev pub is_of_another : Draft → Place → Bool
is_of_another draft p = not (is_unknown p.draft) && not (rank p.draft == rank draft)

-- the entry of a URI that the `$ref` of a place points into, unless it is the place's own base
abbrev pub entry_beyond : ℕ × Site → List ℕ → List (Entry ℕ)
entry_beyond e uri = if bytes_eq uri (nearest_base e.1.1) then [] else under_uri e.0 uri ∷ []

-- the entry of the URI that the `$ref` of a place points into, where its draft is another one
abbrev pub entries_referred : Draft → ℕ × Site → List (Entry ℕ)
entries_referred draft e =
    if is_of_another draft e.1.1 then option_map_or (entry_beyond e) (referred_uri e.1.1) []
    else []

-- those of all places
abbrev pub uris_referred : Draft → List Site → List (Entry ℕ)
uris_referred draft sites = flat_map (entries_referred draft) (enumerate_from 0 sites)

-- the first place that refers to a URI
abbrev pub first_referrer : List Site → List (Entry ℕ) → List ℕ → Option Site
first_referrer sites referred uri =
    option_and_then (slice_get sites) (first_under uri [] referred)

-- the first that refers to a document: by its URI, or else by that of its root's identifier, where it has one
abbrev pub referrer : List Site → List (Entry ℕ) → List ℕ → Option (List ℕ) → Option Site
referrer sites referred uri own =
    option_or (first_referrer sites referred uri)
    (option_and_then (first_referrer sites referred) own)

-- the URI that the first of places has by its identifier; that of a document's places is its root
abbrev pub root_uri : List Place → Option (List ℕ)
root_uri places = option_and_then own_uri (slice_get places 0)

-- whether a draft is 2020-12
abbrev pub is_2020_12 : Draft → Bool
is_2020_12 Draft202012 = true
is_2020_12 other = false

-- whether a place is read as 2020-12, where `items` is one schema (2020-12 Core, 10.3.1.2), and has a list there
abbrev pub has_item_list : Place → Bool
has_item_list p =
    is_2020_12 p.draft && is_some (option_and_then as_array (get (codes "items") p.value))
