-- Literal documents, and what differs between them, for rows that compute.
use Prim.Native.String.{String as Literal}
use Rattle.std.specs.Prelude.{ℕ, List, [], ◌∷◌, map, codes, Option, Some, None}
use Rattle.serde_json.specs.Data.{Data}
use Rattle.ref_paths.specs.Path.{Part, Key}
use Rattle.ref_draft.specs.declared.draft.Draft.TheVariants.{Draft202012}
use Rattle.ref_definitions.specs.World.{Document, Layer}
use Rattle.ref_definitions.specs.Rows.{at, world, text, one, two}
use Rattle.ref_index.specs.Spots.{Spot}
use Rattle.ref_changes.specs.Moves.{Move, map_of}
use Rattle.ref_changes.specs.Changes.{What, OtherReference, OtherName, Difference, differences}

-- a value of the document with a number is under another pointer of another one
abbrev pub move : ℕ → Literal → ℕ → Literal → Move
move number pointer other now =
    record {
      from = record { document = number; pointer = codes pointer };
      to = record { document = other; pointer = codes now };
    }

-- within the first document
abbrev pub renamed : Literal → Literal → List Move
renamed pointer now = move 0 pointer 0 now ∷ []

-- a difference as a row has it: the number of its document, its path, and what differs
abbrev pub row_of : Difference → ℕ × List Part × What
row_of d = (d.site.document, d.site.path, d.what)

-- what differs between documents
abbrev pub compared : Layer → Layer → List Move → List (ℕ × List Part × What)
compared before after moves =
    map row_of
    (differences
    (record { moves = map_of moves; before = world before; after = world after }))

-- a path in the document with a number
abbrev pub spot : ℕ → List Part → Option (ℕ × Spot)
spot document path = Some (0, record { document = document; path = path })

-- what leads elsewhere, under `$ref`
abbrev pub leads : Literal → Literal → Option (ℕ × Spot) → Option (ℕ × Spot) → What
leads before after led now =
    OtherReference (codes "$ref")
    (record {
      texts = record { text = codes before; now = codes after };
      led = led;
      leads = now;
    })

-- what a name leads to elsewhere
abbrev pub names : Literal → Literal → Option (ℕ × Spot) → Option (ℕ × Spot) → What
names before after led now =
    OtherName
    (record {
      texts = record { text = codes before; now = codes after };
      led = led;
      leads = now;
    })

-- a document with these definitions, and a reference
abbrev pub referring : Data → Literal → Document
referring definitions reference =
    at Draft202012 "http://a/r" (two "$defs" definitions "$ref" (text reference))

abbrev pub below : Literal → List Part
below key = Key (codes "$defs") ∷ Key (codes key) ∷ []
