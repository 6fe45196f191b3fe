-- Which places have which URIs (2020-12 Core, 8.2.1), and which names of anchors (8.2.2).
use Rattle.std.specs.Prelude.{ℕ, Bool, true, false, ◌&&◌, ◌||◌, not, ◌==◌, List, [], ◌∷◌, ◌++◌, map, flat_map, length, bytes_eq, if◌then◌else◌, Option, Some, None, option_map, option_and_then, slice_get}
use Rattle.std.specs.Option.{option_to_list, option_map_or}
use Rattle.std.specs.List.{find, enumerate_from}
use Rattle.ref_draft.specs.declared.draft.Draft.{Draft}
use Rattle.ref_draft.specs.Anchors.{Kind, anchors}
use Rattle.ref_paths.specs.Path.{Part}
use Rattle.ref_parts.specs.Table.{Entry, is_under}
use Rattle.ref_parts.specs.Pointer.{slash}
use Rattle.ref_definitions.specs.Places.{Place}
use Rattle.ref_definitions.specs.Resources.{own_uri}
use Rattle.ref_findings.specs.Places.{nearest_base}
use Rattle.ref_findings.specs.Sources.{Source, places_in, under_uri}

-- a place, and the number of its source
abbrev pub Site : Type 0
Site = ℕ × Place

-- places with the number of their source
abbrev pub numbered_sites : ℕ × List Place → List Site
numbered_sites e = map (λ p. (e.0, p)) e.1

-- the places of sources, one source after another
abbrev pub sites : Draft → List Source → List Site
sites draft sources = flat_map numbered_sites (enumerate_from 0 (map (places_in draft) sources))

-- whether a path is empty
abbrev pub is_empty_path : List Part → Bool
is_empty_path [] = true
is_empty_path (part ∷ path) = false

-- whether a place is the root
abbrev pub is_root : Place → Bool
is_root p = is_empty_path p.path

-- the URI of the source, which its root has too, where its own is another one or it has none; the base around a root is
-- that URI
abbrev pub source_uri : Place → Option (List ℕ)
source_uri p =
    if is_root p && not (option_map_or (λ own. bytes_eq own p.outer) (own_uri p) false) then
    Some p.outer
    else None

-- the URIs that a place has
abbrev pub uris_of : Place → List (List ℕ)
uris_of p = option_to_list (source_uri p) ++ option_to_list (own_uri p)

-- the entries of the URIs that the place with a number has
abbrev pub uri_entries : ℕ × Site → List (Entry ℕ)
uri_entries e = map (under_uri e.0) (uris_of e.1.1)

-- those of all places
abbrev pub uris_borne : List Site → List (Entry ℕ)
uris_borne sites = flat_map uri_entries (enumerate_from 0 sites)

-- whether a text begins with a slash
abbrev pub begins_with_slash : List ℕ → Bool
begins_with_slash [] = false
begins_with_slash (c ∷ text) = c == slash

-- the entry of an anchor under a base, where it has a name: `"$id": "#"` of Drafts 4 to 7 has none, and what begins with a
-- slash is a pointer
abbrev pub name_at : ℕ → List ℕ → List ℕ × Kind → List (Entry ℕ)
name_at number base a =
    if length a.0 == 0 || begins_with_slash a.0 then [] else (base, a.0, number) ∷ []

-- the entries of the names that a place has, under its base
abbrev pub names_at : ℕ → Place → List (Entry ℕ)
names_at number p = flat_map (name_at number (nearest_base p)) (anchors p.draft p.value)

-- those of the place with a number
abbrev pub name_entries : ℕ × Site → List (Entry ℕ)
name_entries e = names_at e.0 e.1.1

-- those of all places
abbrev pub names_borne : List Site → List (Entry ℕ)
names_borne sites = flat_map name_entries (enumerate_from 0 sites)

-- the number of the first entry under two texts
abbrev pub first_under : List ℕ → List ℕ → List (Entry ℕ) → Option ℕ
first_under first second entries = option_map (λ e. e.2) (find (is_under first second) entries)

-- the place with a number, unless it is this one
abbrev pub other_than : List Site → ℕ → ℕ → Option Site
other_than sites number first = if first == number then None else slice_get sites first

-- the first place that has two texts, where that is another one than this
abbrev pub other_bearer : List Site → ℕ → Option ℕ → Option Site
other_bearer sites number first = option_and_then (other_than sites number) first

-- a place, where it is in the source with a number
abbrev pub in_source : ℕ → Site → Option Site
in_source number s = if s.0 == number then Some s else None
