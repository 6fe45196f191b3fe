-- Ranges of a text (Language Server Protocol 3.17, "Position" and "Range"), and what is asked of one ("CodeActionParams").
use Rattle.std.specs.Prelude.{ℕ, ◌==◌, ◌||◌, ◌&&◌, Bool, true, false, Option, Some, None, bytes_eq, codes, length, nat_lt, nat_le, option_and_then}
use Rattle.std.specs.Option.{option_map_or}
use Rattle.serde_json.specs.Data.{Data, Items, no_items, item}
use Rattle.serde_json.specs.Find.{get, pointer, as_array, as_str}
use Rattle.ref_lsp.specs.Changes.{number_at}

-- a place is another one, or before it
abbrev pub is_at_most : ℕ × ℕ → ℕ × ℕ → Bool
is_at_most p q = nat_lt p.0 q.0 || (p.0 == q.0 && nat_le p.1 q.1)

-- two ranges have a place in common, which may be where one ends and the other begins
abbrev pub touches : (ℕ × ℕ) × (ℕ × ℕ) → (ℕ × ℕ) × (ℕ × ℕ) → Bool
touches r s = is_at_most r.0 s.1 && is_at_most s.0 r.1

abbrev pub both : {A : Type 0} → Option A → Option A → Option (A × A)
both (Some a) (Some b) = Some (a, b)
both (Some a) None = None
both None b = None

-- the place that a value says
abbrev pub place_at : Data → Option (ℕ × ℕ)
place_at place = both (number_at (codes "/line") place) (number_at (codes "/character") place)

-- the range that a value says
abbrev pub range_of : Data → Option ((ℕ × ℕ) × (ℕ × ℕ))
range_of range =
    both (option_and_then place_at (get (codes "start") range))
    (option_and_then place_at (get (codes "end") range))

-- the range of a request
abbrev pub range_at : Data → Option ((ℕ × ℕ) × (ℕ × ℕ))
range_at params = option_and_then range_of (get (codes "range") params)

-- changes that mend are of a kind ("CodeActionKind"): of all, or of `quickfix`
abbrev pub is_of_fixes : Data → Bool
is_of_fixes kind =
    option_map_or (λ name. length name == 0 || bytes_eq name (codes "quickfix")) (as_str kind) false

abbrev pub has_fixes : Items → Bool
has_fixes no_items = false
has_fixes (item kind rest) = is_of_fixes kind || has_fixes rest

-- they are among the kinds that are asked for, which are all where none are named
abbrev pub takes_fixes : Data → Bool
takes_fixes params =
    option_map_or has_fixes (option_and_then as_array (pointer (codes "/context/only") params)) true
