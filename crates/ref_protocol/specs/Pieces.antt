-- Pieces of the JSON that is sent (Language Server Protocol 3.17), as they are added to a text.
use Rattle.std.specs.Prelude.{ℕ, ◌-◌, ◌==◌, ◌||◌, Bool, true, if◌then◌else◌, List, [], ◌∷◌, ◌++◌, codes, decimal, length, slice_get}
use Rattle.std.specs.Option.{option_map_or}
use Rattle.serde_json.specs.Data.{string}
use Rattle.serde_json.specs.Written.{compact_text}

-- a text as JSON has it
abbrev pub quoted : List ℕ → List ℕ
quoted text = compact_text (string text)

-- a place: a line and units on it
abbrev pub place : (ℕ × ℕ) → List ℕ
place p =
    codes "{\"line\":" ++ decimal p.0 ++ codes ",\"character\":" ++ decimal p.1 ++ codes "}"

-- from one place up to another
abbrev pub range : ((ℕ × ℕ) × (ℕ × ℕ)) → List ℕ
range r = codes "{\"start\":" ++ place r.0 ++ codes ",\"end\":" ++ place r.1 ++ codes "}"

-- a place of a document
abbrev pub location : List ℕ → ((ℕ × ℕ) × (ℕ × ℕ)) → List ℕ
location uri r =
    codes "{\"uri\":" ++ quoted uri ++ codes ",\"range\":" ++ range r ++ codes "}"

-- whether nothing is before what is added to a text, or the beginning of a list or an object
abbrev pub is_first : List ℕ → Bool
is_first text =
    option_map_or (λ b. b == 91 || b == 123) (slice_get text (length text - 1)) true

-- with a comma, unless something begins there
abbrev pub with_comma : List ℕ → List ℕ
with_comma text = if is_first text then text else text ++ 44 ∷ []
