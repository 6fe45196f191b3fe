-- Which names stand for which places under a URI (2020-12 Core, 8.2.2).
use Rattle.std.specs.Prelude.{ℕ, ◌&&◌, ◌==◌, List, [], ◌∷◌, ◌++◌, flat_map, map, filter, bytes_eq, Option, None, option_and_then, Result, if◌then◌else◌}
use Rattle.std.specs.List.{list_any, last_or}
use Rattle.std.specs.Option.{ok_or, option_map_or, option_or}
use Rattle.std.specs.Result.{result_ok}
use Rattle.ref_parts.specs.Pointer.{slash}
use Rattle.ref_draft.specs.Anchors.{Kind, anchors}
use Rattle.ref_definitions.specs.World.{Document, Layer, World}
use Rattle.ref_definitions.specs.Places.{Place, places, root}
use Rattle.ref_definitions.specs.Resources.{own_uri, meant_place}
use Rattle.ref_definitions.specs.Fault.{Fault, NoSuchAnchor, InvalidAnchor}

-- a name under a URI, with its kind and place
pub record Named : Type 0 where
  pub uri : List ℕ
  pub name : List ℕ
  pub kind : Kind
  pub place : Place

-- the anchors of a place under a URI
abbrev pub named_under : List ℕ → Place → List Named
named_under uri p =
    map (λ a. record { uri = uri; name = a.0; kind = a.1; place = p }) (anchors p.draft p.value)

-- under its base, which it may lack
abbrev pub named_at : Place → List Named
named_at p = option_map_or (λ base. named_under base p) (result_ok p.base) []

-- the root's anchors under the document's URI, then each place's under its base
abbrev pub names_in : Document → List Named
names_in d = named_under d.uri (root d) ++ flat_map named_at (places d)

-- the names of a layer, document by document
abbrev pub names : Layer → List Named
names layer = flat_map names_in layer

-- the last entry under a URI and a name
abbrev pub last_named : List ℕ → List ℕ → List Named → Option Named
last_named uri name entries =
    last_or None (filter (λ e. bytes_eq e.uri uri && bytes_eq e.name name) entries)

-- the last entry under a URI and a name in the nearest layer that has one
abbrev pub named_entry : World → List ℕ → List ℕ → Option Named
named_entry [] uri name = None
named_entry (layer ∷ world) uri name =
    option_or (last_named uri name (names layer)) (named_entry world uri name)

-- where a URI means a place with an identifier: the entry of the name under that place's base
abbrev pub named_by_identifier : World → List ℕ → List ℕ → Option Named
named_by_identifier world uri name =
    option_and_then (λ own. named_entry world own name)
    (option_and_then own_uri (meant_place world uri))

-- the fault of a name that nothing has: a name with `/` in it is none
abbrev pub not_named : List ℕ → Fault
not_named name = if list_any (λ c. c == slash) name then InvalidAnchor name else NoSuchAnchor name

-- The entry that a name under a URI means: the one there, or else the one under the base of the place there
unfoldable pub anchor : World → List ℕ → List ℕ → Result Named Fault
anchor world uri name =
    ok_or (option_or (named_entry world uri name) (named_by_identifier world uri name))
    (not_named name)
