-- Names that differ by small letters and capitals alone.
use Rattle.std.specs.Prelude.{ℕ, List, [], ◌∷◌, map, flat_map, reverse, Option}
use Rattle.std.specs.Option.{option_map_or}
use Rattle.std.specs.Char.{to_ascii_lowercase}
use Rattle.std.specs.List.{enumerate_from}
use Rattle.ref_parts.specs.Table.{Entry, last_value}

-- a text in small letters
abbrev pub small : List ℕ → List ℕ
small text = map to_ascii_lowercase text

-- a text that is wanted, and one that is there and has its letters, by their numbers
pub record Alike : Type 0 where
  pub wanted : ℕ
  pub there : ℕ

-- a text as an entry under its small letters
abbrev pub entry_of : ℕ × List ℕ → List (Entry ℕ)
entry_of e = (small e.1, [], e.0) ∷ []

-- the texts that are there, the last first, so that of several with the same letters the first counts
abbrev pub entries : List (List ℕ) → List (Entry ℕ)
entries there = reverse (flat_map entry_of (enumerate_from 0 there))

-- the first text that is there and has the letters of another one, small or capital
abbrev pub first_alike : List (List ℕ) → List ℕ → Option ℕ
first_alike there text = last_value (small text) [] (entries there)

abbrev pub alike_at : List (List ℕ) → ℕ × List ℕ → List Alike
alike_at there e =
    option_map_or (λ n. record { wanted = e.0; there = n } ∷ []) (first_alike there e.1) []

-- Of those texts that are wanted, which have the letters of one that is there, small or capital, and of which first
abbrev pub all_alike : List (List ℕ) → List (List ℕ) → List Alike
all_alike wanted there = flat_map (alike_at there) (enumerate_from 0 wanted)
