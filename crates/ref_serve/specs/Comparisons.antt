-- The result of `compare`.
use Rattle.std.specs.Prelude.{ℕ, List, [], ◌∷◌, ◌++◌, codes, Option, None, Some, option_map, option_and_then, Result, Ok, ok_or}
use Rattle.serde_json.specs.Data.{Data, null, string, Items, no_items, item}
use Rattle.serde_json.specs.Find.{get, as_str, as_array, as_number, as_u64}
use Rattle.ref_definitions.specs.Results.{◌>>=◌}
use Rattle.ref_index.specs.Spots.{Spot}
use Rattle.ref_calls.specs.declared.fault.Wrong.TheVariants.{InvalidField}
use Rattle.ref_calls.specs.Errors.{field_error, at_index}
use Rattle.ref_calls.specs.Objects.{object_of, whole}
use Rattle.ref_calls.specs.Calls.{items_in, each_item}
use Rattle.ref_changes.specs.Moves.{Address, Move, map_of}
use Rattle.ref_changes.specs.Changes.{Leading, What, NoPlace, OtherDraft, OtherBase, OtherMark, OtherAnchors, OtherText, OtherReference, OtherName, Difference, differences, first}
use Rattle.ref_serve.specs.State.{OpenRegistry, Registries, registry_under, layer_number}
use Rattle.ref_serve.specs.Listings.{site_members}

-- ---- what moves

-- the two items of a list
abbrev pub two_of : Items → Option (Data × Data)
two_of (item a (item b no_items)) = Some (a, b)
two_of other = None

-- the number of a document and a pointer
abbrev pub address_with : Option ℕ → Option (List ℕ) → Option Address
address_with (Some number) (Some text) = Some (record { document = number; pointer = text })
address_with (Some number) None = None
address_with None (Some text) = None
address_with None None = None

-- `[document, pointer]`
abbrev pub address_of : Data → Option Address
address_of d =
    option_and_then (λ t. address_with (option_and_then as_u64 (as_number t.0)) (as_str t.1))
    (option_and_then two_of (as_array d))

-- from one address to another
abbrev pub move_with : Option Address → Option Address → Option Move
move_with (Some from) (Some to) = Some (record { from = from; to = to })
move_with (Some from) None = None
move_with None (Some to) = None
move_with None None = None

-- `[from, to]`
abbrev pub move_of : Data → Option Move
move_of d =
    option_and_then (λ t. move_with (address_of t.0) (address_of t.1))
    (option_and_then two_of (as_array d))

abbrev pub move_in : ℕ → Data → Result Move Data
move_in n d = at_index n (ok_or (move_of d) (field_error InvalidField (codes "moves")))

-- the list under `moves`; where there is none, nothing moves
abbrev pub moves_at : Option Data → Result (List Move) Data
moves_at None = Ok []
moves_at (Some d) = items_in (codes "moves") d >>= each_item move_in 0

-- ---- what differs

-- a registry with its number
abbrev pub Side : Type 0
Side = ℕ × OpenRegistry

-- the members of where a text leads; there are none where it leads nowhere
abbrev pub location_members : Side → Option (ℕ × Spot) → List (List ℕ × Data)
location_members side None = []
location_members side (Some (layer, spot)) =
    (codes "registry", whole (layer_number side.0 side.1.1 layer))
    ∷ site_members spot.document spot.path

-- the object of a text, and of where it leads
abbrev pub led_object : Side → List ℕ → Option (ℕ × Spot) → Data
led_object side text at = object_of ((codes "reference", string text) ∷ location_members side at)

-- of a text before, and of the one in its place after
abbrev pub leading_members : Side → Side → Leading → List (List ℕ × Data)
leading_members before after l =
    (codes "before", led_object before l.texts.text l.led)
    ∷ (codes "after", led_object after l.texts.now l.leads) ∷ []

-- the name of what differs
abbrev pub what_name : What → List ℕ
what_name NoPlace = codes "NoPlace"
what_name OtherDraft = codes "OtherDraft"
what_name OtherBase = codes "OtherBase"
what_name OtherMark = codes "OtherMark"
what_name OtherAnchors = codes "OtherAnchors"
what_name (OtherText keyword) = codes "OtherText"
what_name (OtherReference keyword l) = codes "OtherReference"
what_name (OtherName l) = codes "OtherName"

-- what else is told of it
abbrev pub told_members : Side → Side → What → List (List ℕ × Data)
told_members before after (OtherText keyword) = (codes "keyword", string keyword) ∷ []
told_members before after (OtherReference keyword l) =
    (codes "keyword", string keyword) ∷ leading_members before after l
told_members before after (OtherName l) = leading_members before after l
told_members before after other = []

-- the object of a difference: its place before, what differs, and what else is told of it
abbrev pub difference_object : Side → Side → Difference → Data
difference_object before after d =
    object_of
    (site_members d.site.document d.site.path ++ (codes "what", string (what_name d.what))
    ∷ told_members before after d.what)

abbrev pub difference_data : Side → Side → Option Difference → Data
difference_data before after None = null
difference_data before after (Some d) = difference_object before after d

-- what differs first between two registries, or `null`
abbrev pub compared_object : Side → Side → List Move → Data
compared_object before after moves =
    object_of
    ((
      codes "difference",
      difference_data before after
          (first
          (differences (record { moves = map_of moves; before = before.1.0; after = after.1.0 }))),
    )
    ∷ [])

-- `compare`
unfoldable pub compare_result : Registries → Data → Result Data Data
compare_result state d = do
  before ← registry_under state d (codes "registry")
  after ← registry_under state d (codes "after")
  moves ← moves_at (get (codes "moves") d)
  Ok (compared_object before after moves)
