-- Which URIs identify which places: the schema resources (2020-12 Core, 8.2.1).
use Rattle.std.specs.Prelude.{ℕ, List, [], ◌∷◌, flat_map, filter, bytes_eq, Option, Some, None, option_map, option_and_then}
use Rattle.std.specs.List.{last_or}
use Rattle.std.specs.Option.{option_map_or, option_to_list}
use Rattle.std.specs.Result.{result_ok}
use Rattle.ref_definitions.specs.World.{Document, Layer, World}
use Rattle.ref_definitions.specs.Places.{Place, places, root, identifier_of}

-- the URI that identifies a place by its own identifier: its base, where the identifier resolves
abbrev pub own_uri : Place → Option (List ℕ)
own_uri p = option_and_then (λ id. result_ok p.base) (identifier_of p)

-- the entry of a place with an identifier: the place under its base
abbrev pub resource_of : Place → List (List ℕ × Place)
resource_of p = option_to_list (option_map (λ uri. (uri, p)) (own_uri p))

-- a document's URI identifies its root; then each place with an identifier is identified by its base
abbrev pub resources_in : Document → List (List ℕ × Place)
resources_in d = (d.uri, root d) ∷ flat_map resource_of (places d)

-- the entries of a layer, document by document
abbrev pub resources : Layer → List (List ℕ × Place)
resources layer = flat_map resources_in layer

-- the last entry under a URI
abbrev pub last_under : {X : Type 0} → List ℕ → List (List ℕ × X) → Option (List ℕ × X)
last_under uri entries = last_or None (filter (λ e. bytes_eq e.0 uri) entries)

-- the last entry under a URI in the nearest layer that has one
abbrev pub meant_place : World → List ℕ → Option Place
meant_place [] uri = None
meant_place (layer ∷ world) uri =
    option_map_or (λ e. Some e.1) (last_under uri (resources layer)) (meant_place world uri)
