-- Literal documents and places, and what differs between them, for rows that compute.
use Prim.Native.String.{String as Literal}
use Rattle.std.specs.Prelude.{false, List, [], ◌∷◌, map, codes}
use Rattle.serde_json.specs.Data.{Data}
use Rattle.ref_paths.specs.Path.{Part, Key}
use Rattle.ref_draft.specs.declared.draft.Draft.TheVariants.{Draft202012}
use Rattle.ref_definitions.specs.World.{Layer}
use Rattle.ref_definitions.specs.Rows.{at, one, two, text}
use Rattle.ref_reach.specs.Places.{Place}
use Rattle.ref_reach.specs.Leading.{Known}
use Rattle.ref_reach.specs.Schemas.{schema_reading}
use Rattle.ref_changes.specs.Moves.{Move, map_of}
use Rattle.ref_comparison.specs.Further.{What, OtherTarget, Difference, differences}

-- documents, as references are looked up in them
abbrev pub known : Layer → Known
known documents =
    record {
      uris = map (λ d. d.uri) documents;
      trees = map (λ d. d.tree) documents;
      own = [];
      parts = [];
      layer = documents;
    }

-- a value under a key of the first document, which is read as a schema, and a base
abbrev pub place : Literal → Data → Literal → Place
place key value base =
    record {
      document = 0;
      path = Key (codes key) ∷ [];
      value = value;
      reading = schema_reading Draft202012;
      base = codes base;
      is_identified = false;
    }

-- a reference
abbrev pub refers : Literal → Data
refers reference = one "$ref" (text reference)

-- two documents: one with a value under a key, and a reference under `x`; and another one
abbrev pub documents : Literal → Data → Literal → Layer
documents key value reference =
    at Draft202012 "http://a/r" (two key value "x" (refers reference))
    ∷ at Draft202012 "http://a/s" (one "y" value) ∷ []

-- its place
abbrev pub place_to : Literal → Place
place_to reference = place "x" (refers reference) "http://a/r"

-- a difference as a row has it: the path of its place, and what differs
abbrev pub row_of : Difference → List Part × What
row_of d = (d.place.path, d.what)

-- documents and places in them, before or after
pub record Side : Type 0 where
  pub layer : Layer
  pub places : List Place

abbrev pub compared : Side → Side → List Move → List (List Part × What)
compared before after moves =
    map row_of
    (differences
    (record { moves = map_of moves; before = known before.layer; after = known after.layer })
    before.places after.places)

-- the documents with that place alone
abbrev pub side : Literal → Data → Literal → Side
side key value reference =
    record { layer = documents key value reference; places = place_to reference ∷ [] }

-- at that place
abbrev pub at_x : What → List (List Part × What)
at_x what = (Key (codes "x") ∷ [], what) ∷ []

-- its reference leads elsewhere
abbrev pub leads : Literal → Literal → What
leads before after =
    OtherTarget (codes "$ref") (record { text = codes before; now = codes after })
