-- Where values are after documents are changed.
use Rattle.std.specs.Prelude.{ℕ, Bool, true, false, ◌&&◌, ◌==◌, List, [], ◌∷◌, ◌++◌, map, decimal, bytes_eq, Option, None, Some, unwrap_or, if◌then◌else◌}
use Rattle.ref_paths.specs.Path.{Part}
use Rattle.ref_parts.specs.Pointer.{pointer_text}
use Rattle.ref_parts.specs.Table.{Entry, last_value}
use Rattle.ref_index.specs.Spots.{Spot}

-- where a value is: the number of its document, and its pointer there (RFC 6901)
pub record Address : Type 0 where
  pub document : ℕ
  pub pointer : List ℕ

-- a value that is at one address before, and at another after
pub record Move : Type 0 where
  pub from : Address
  pub to : Address

-- the address of a path in a document
abbrev pub address_of : Spot → Address
address_of s = record { document = s.document; pointer = pointer_text s.path }

-- where a move leads, under the pointer and the number of the document that it leads from
abbrev pub move_entry : Move → Entry Address
move_entry m = (m.from.pointer, decimal m.from.document, m.to)

-- what moves, as a map
abbrev pub Moves : Type 0
Moves = List (Entry Address)

abbrev pub map_of : List Move → Moves
map_of moves = map move_entry moves

-- where a value moves by itself: by the last move that says so
abbrev pub moved : Moves → Spot → Option Address
moved moves s = last_value (pointer_text s.path) (decimal s.document) moves

-- what is at more parts of a path
abbrev pub address_below : Address → List Part → Address
address_below a parts = record a { pointer = a.pointer ++ pointer_text parts }

-- where the rest of a path leads, where what is before it is at an address
abbrev pub image_along : Moves → Spot → Address → List Part → Address
image_along moves s at [] = at
image_along moves s at (part ∷ path) =
    let next : Spot = record s { path = s.path ++ part ∷ [] } in
    image_along moves next (unwrap_or (moved moves next) (address_below at (part ∷ []))) path

-- Where a value is after: a value moves by itself, or along with the value that it is in; a document that doesn't move stays
abbrev pub image : Moves → Spot → Address
image moves s =
    let root : Spot = record s { path = [] } in
    image_along moves root (unwrap_or (moved moves root) (address_of root)) s.path

-- whether two addresses are the same
abbrev pub is_address : Address → Address → Bool
is_address a b = (a.document == b.document) && bytes_eq a.pointer b.pointer

-- where a value of a layer is after: only the own documents, those of layer 0, are changed
abbrev pub image_in : Moves → ℕ × Spot → Address
image_in moves at = if at.0 == 0 then image moves at.1 else address_of at.1

-- whether what was at one place of one layer is at another
abbrev pub is_moved : Moves → ℕ × Spot → ℕ × Spot → Bool
is_moved moves before after =
    (before.0 == after.0) && is_address (image_in moves before) (address_of after.1)

-- the same where there may be none before: then there is none after
abbrev pub is_moved_if : Moves → Option (ℕ × Spot) → Option (ℕ × Spot) → Bool
is_moved_if moves (Some before) (Some after) = is_moved moves before after
is_moved_if moves (Some before) None = false
is_moved_if moves None (Some after) = false
is_moved_if moves None None = true
