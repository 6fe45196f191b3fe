-- What was located, as offsets of a text.
use Rattle.std.specs.Prelude.{ℕ, ◌≡◌, List, Option, Some, None, option_map, get_or, length, min}
use Rattle.ref_positions.specs.Walks.{not_found}
use Rattle.ref_positions.specs.declared.locate.Located.{Located}
use Rattle.ref_positions.specs.declared.position.Position.{Position}

-- the offset at which the value of a place begins, and that of its key
abbrev pub value_at : Located → ℕ → Option ℕ
value_at located place = option_map (λ at. at.1) (get_or located.found.items place not_found).value

abbrev pub key_at : Located → ℕ → Option ℕ
key_at located place = option_map (λ at. at.1) (get_or located.found.items place not_found).key

-- the position at an offset of a text, or at its end where that is before it
abbrev pub IsSpot : List ℕ → Option ℕ → Option Position → Type 0
IsSpot text None spot = spot ≡ None
IsSpot text (Some start) spot = (p : Position) × (spot ≡ Some p) × (p.text.now ≡ text) × (p.offset ≡ min start (length text))
