-- Paths into a JSON value, and the value at a path: the reference tokens of RFC 6901, section 4, with their kind
-- already decided.
use Rattle.std.specs.Prelude.{ℕ, ◌^◌, ◌<◌, Bool, false, ◌==◌, nat_eq, List, [], ◌∷◌, length, take, Option, Some, None, option_and_then, unwrap_or, ⊤}
use Rattle.std.specs.Cmp.Lexicographic.{pointwise}
use Rattle.std.specs.List.{last_or}
use Rattle.serde_json.specs.Data.{Data}
use Rattle.serde_json.specs.Find.{get, at}

-- a step into an object by its key (the key's bytes), or into an array by its index
pub data Part : Type 0 where
  Key : List ℕ → Part
  Index : ℕ → Part

-- one step: a key steps into an object alone, an index into an array alone (RFC 6901, section 4)
abbrev pub child_at : Data → Part → Option Data
child_at d (Key k) = get k d
child_at d (Index i) = at i d

-- the value at a path, or none where a step finds no value
abbrev pub value_at : Data → List Part → Option Data
value_at d [] = Some d
value_at d (part ∷ path) = option_and_then (λ e. value_at e path) (child_at d part)

-- each index of the path fits 64 bits, as those of a program do
abbrev pub HasFittingIndexes : List Part → Type 0
HasFittingIndexes [] = ⊤
HasFittingIndexes (Key k ∷ path) = HasFittingIndexes path
HasFittingIndexes (Index i ∷ path) = (i < 2 ^ 64) × HasFittingIndexes path

-- the last part of a path; the root's is index 0
abbrev pub last_part : List Part → Part
last_part path = unwrap_or (last_or None path) (Index 0)

-- the path without its last part; the root has none
abbrev pub parent_path : List Part → Option (List Part)
parent_path [] = None
parent_path (part ∷ path) = Some (take (length path) (part ∷ path))

-- ---- equality, as a test

-- whether two parts are the same
abbrev pub part_eq : Part → Part → Bool
part_eq (Key k) (Key m) = pointwise nat_eq k m
part_eq (Key k) (Index j) = false
part_eq (Index i) (Key m) = false
part_eq (Index i) (Index j) = i == j

-- whether two paths are the same
abbrev pub path_eq : List Part → List Part → Bool
path_eq path other = pointwise part_eq path other
