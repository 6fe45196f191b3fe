-- What is added to lists.
use Rattle.std.specs.Prelude.{◌≡◌, ℕ, List, [], ◌∷◌, ◌++◌, map, Bool, ◌&&◌, if◌then◌else◌}
use Rattle.serde_json.specs.Data.{Data}
use Rattle.ref_rules.specs.declared.slip.Slip as rust
use Rattle.ref_rules.specs.Slips.{Slip, is_there, is_text_or_not_id}
use Rattle.ref_rules.specs.Views.{slip_of}

-- these were added at the end
abbrev pub AddsSlips : List Slip → List rust.Slip → List rust.Slip → Type 0
AddsSlips more old new = map slip_of new ≡ map slip_of old ++ more

-- a keyword, where this holds of it
abbrev pub kept : (List ℕ → Bool) → List ℕ → List (List ℕ)
kept f k = if f k then k ∷ [] else []

-- whether a keyword is there, as a text where it is `id`
abbrev pub is_other_there : Data → List ℕ → Bool
is_other_there value k = is_there value k && is_text_or_not_id value k
