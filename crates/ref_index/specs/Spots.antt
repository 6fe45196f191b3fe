-- Where the places of a layer are: in the document with which number, and at which path there.
use Rattle.std.specs.Prelude.{ℕ, suc, ◌&&◌, List, [], ◌∷◌, ◌++◌, map, filter, bytes_eq, Option, None, option_map}
use Rattle.std.specs.List.{last_or}
use Rattle.ref_paths.specs.Path.{Part}
use Rattle.ref_paths.specs.Segment.{part_of}
use Rattle.ref_definitions.specs.World.{Document, Layer}
use Rattle.ref_definitions.specs.Places.{Place}
use Rattle.ref_definitions.specs.Resources.{resources_in}
use Rattle.ref_definitions.specs.Anchors.{Named, names_in}
use Rattle.ref_index.specs.declared.entry.Entry.{Entry}

-- the number of a document in its layer, counted from 0, and a path there
pub record Spot : Type 0 where
  pub document : ℕ
  pub path : List Part

-- what a document has, each with the document's number
abbrev pub with_number : {X : Type 0} → ℕ → List X → List (ℕ × X)
with_number number xs = map (λ x. (number, x)) xs

-- what documents have, one document after another, each with its document's number, counted from this one on
abbrev pub numbered_from : {X : Type 0} → (Document → List X) → ℕ → Layer → List (ℕ × X)
numbered_from has number [] = []
numbered_from has number (d ∷ ds) = with_number number (has d) ++ numbered_from has (suc number) ds

-- the resources of a layer, and its names, with the numbers of their documents
abbrev pub numbered_resources : Layer → List (ℕ × (List ℕ × Place))
numbered_resources layer = numbered_from resources_in 0 layer

abbrev pub numbered_names : Layer → List (ℕ × Named)
numbered_names layer = numbered_from names_in 0 layer

-- the last resource under a URI, and the last name under a URI, with the numbers of their documents
abbrev pub last_resource : List ℕ → Layer → Option (ℕ × (List ℕ × Place))
last_resource uri layer =
    last_or None (filter (λ r. bytes_eq r.1.0 uri) (numbered_resources layer))

abbrev pub last_name : List ℕ → List ℕ → Layer → Option (ℕ × Named)
last_name uri name layer =
    last_or None
    (filter (λ n. bytes_eq n.1.uri uri && bytes_eq n.1.name name) (numbered_names layer))

-- where the place is that a URI means in a layer
abbrev pub spot_under : List ℕ → Layer → Option Spot
spot_under uri layer =
    option_map (λ r. record { document = r.0; path = r.1.1.path }) (last_resource uri layer)

-- where the place is that a name means under a URI in a layer
abbrev pub spot_named : List ℕ → List ℕ → Layer → Option Spot
spot_named uri name layer =
    option_map (λ n. record { document = n.0; path = n.1.place.path }) (last_name uri name layer)

-- where an entry of the program says that its place is
abbrev pub spot_of : Entry → Spot
spot_of e = record { document = e.document; path = map part_of e.path.items }
