-- The documents that are read, and which of them references are looked up in.
use Rattle.std.specs.Prelude.{ℕ, Bool, not, ◌&&◌, is_some, if◌then◌else◌, List, [], ◌∷◌, ◌++◌, flat_map, map, Option, None, option_map}
use Rattle.std.specs.Option.{option_to_list, option_map_or}
use Rattle.std.specs.List.{list_any}
use Rattle.serde_json.specs.Data.{Data}
use Rattle.ref_draft.specs.declared.draft.Draft.{Draft}
use Rattle.ref_parts.specs.Table.{Entry}
use Rattle.ref_definitions.specs.World.{Document, World}
use Rattle.ref_definitions.specs.Places.{Place}
use Rattle.ref_definitions.specs.Resources.{own_uri}
use Rattle.ref_findings.specs.Places.{document, places_near, is_faulty}
use Rattle.ref_findings.specs.Mending.{mended_tree}

-- a source: its URI, and its tree, where it is JSON
pub record Source : Type 0 where
  pub uri : List ℕ
  pub tree : Option Data

-- its document, whose draft is detected on it
abbrev pub document_in : Draft → Source → Option Document
document_in draft s = option_map (document draft s.uri) s.tree

-- its places
abbrev pub places_in : Draft → Source → List Place
places_in draft s = option_map_or places_near (document_in draft s) []

-- whether it is JSON, and each identifier, `$ref` and `$schema` of its places means a URI
abbrev pub is_sound : Draft → Source → Bool
is_sound draft s = is_some s.tree && not (list_any is_faulty (places_in draft s))

-- its document, where it is sound
abbrev pub sound_document : Draft → Source → List Document
sound_document draft s = if is_sound draft s then option_to_list (document_in draft s) else []

-- its tree with `null` in place of each text that means no URI
abbrev pub tree_mended : Draft → Source → Option Data
tree_mended draft s = option_map (mended_tree (places_in draft s)) s.tree

-- the tree that is read in place of its own, where it is JSON and isn't sound
abbrev pub tree_in_place : Draft → Source → Option Data
tree_in_place draft s = if is_sound draft s then None else tree_mended draft s

-- a source with that tree
abbrev pub mended : Draft → Source → Source
mended draft s = record s { tree = tree_mended draft s }

-- a source as it is read: itself, where it is sound
abbrev pub read_source : Draft → Source → Source
read_source draft s = if is_sound draft s then s else mended draft s

-- its document
abbrev pub read_document : Draft → Source → List Document
read_document draft s = sound_document draft (read_source draft s)

-- what references are looked up in: the sources, and those that are held beside them, as they are read
abbrev pub world_of : Draft → List Source → List Source → World
world_of draft sources held = flat_map (read_document draft) (sources ++ held) ∷ []

-- an entry of a URI alone
abbrev pub under_uri : ℕ → List ℕ → Entry ℕ
under_uri number uri = (uri, [], number)

-- the URI of a source, and those that its places have by their identifiers
abbrev pub uris_in : Draft → Source → List (List ℕ)
uris_in draft s = s.uri ∷ flat_map (λ p. option_to_list (own_uri p)) (places_in draft s)

-- the URI of a source that isn't JSON
abbrev pub unread_uri : Source → List (Entry ℕ)
unread_uri s = if is_some s.tree then [] else under_uri 0 s.uri ∷ []

-- those of all sources that aren't
abbrev pub unread_uris : List Source → List Source → List (Entry ℕ)
unread_uris sources held = flat_map unread_uri (sources ++ held)
