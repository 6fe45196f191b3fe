-- What preparing a registry resolves, and so keeps: texts, each with the base URI that it is resolved against.
use Rattle.std.specs.Prelude.{ℕ, ◌==◌, List, [], ◌∷◌, ◌++◌, flat_map, codes, slice_index, Option, if◌then◌else◌}
use Rattle.std.specs.Option.{option_map_or}
use Rattle.std.specs.Result.{result_ok}
use Rattle.serde_json.specs.Data.{Data}
use Rattle.ref_draft.specs.Schema.{text_under}
use Rattle.ref_uri.specs.Bytes.{hash}
use Rattle.ref_uri.specs.Targets.{uri_part}
use Rattle.ref_definitions.specs.World.{Layer}
use Rattle.ref_definitions.specs.Places.{Place, identifier_of, places}

-- a base and a text
abbrev pub Pair : Type 0
Pair = List ℕ × List ℕ

-- an identifier, where there is one, with the base around it
abbrev pub pairs_of_identifier : List ℕ → Option (List ℕ) → List Pair
pairs_of_identifier outer id = option_map_or (λ text. (outer, text) ∷ []) id []

-- the URI part of a reference, with a base: one that begins with `#` has none to resolve
abbrev pub pairs_of_reference : List ℕ → List ℕ → List Pair
pairs_of_reference base reference =
    if slice_index reference 0 == hash then [] else (base, uri_part reference) ∷ []

-- that of the text under `$ref`, with the base of its place
abbrev pub pairs_of_value : List ℕ → Data → List Pair
pairs_of_value base value =
    option_map_or (pairs_of_reference base) (text_under (codes "$ref") value) []

-- that of a place's identifier
abbrev pub identifier_pairs_at : Place → List Pair
identifier_pairs_at p = pairs_of_identifier p.outer (identifier_of p)

-- that of a place's reference, where the place has a base
abbrev pub reference_pairs_at : Place → List Pair
reference_pairs_at p = option_map_or (λ base. pairs_of_value base p.value) (result_ok p.base) []

-- those of a place
abbrev pub pairs_at : Place → List Pair
pairs_at p = identifier_pairs_at p ++ reference_pairs_at p

-- those of a layer's identifiers, by documents and places
abbrev pub identifier_pairs : Layer → List Pair
identifier_pairs layer = flat_map (λ d. flat_map identifier_pairs_at (places d)) layer

-- those of its references, likewise
abbrev pub reference_pairs : Layer → List Pair
reference_pairs layer = flat_map (λ d. flat_map reference_pairs_at (places d)) layer

-- those of a layer, of identifiers first
abbrev pub pairs : Layer → List Pair
pairs layer = identifier_pairs layer ++ reference_pairs layer
