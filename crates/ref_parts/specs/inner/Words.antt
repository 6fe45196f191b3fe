-- Words of bytes as numbers, and marks in them.
use Rattle.std.specs.Prelude.{◌≡◌, ℕ, ◌+◌, ◌*◌, Bool, List, [], ◌∷◌, length, MatchBool}
use Rattle.std.specs.List.{position_or_len}
use Rattle.ref_parts.specs.Pointer.{is_escaped}

-- the number of a word's bytes, the first one lowest
abbrev pub number : List ℕ → ℕ
number [] = 0
number (b ∷ bytes) = b + 256 * number bytes

-- the lowest bit that is set is the high bit of the first byte that passes the test; where none does, none is set
abbrev pub MarksFirst : (ℕ → Bool) → List ℕ → ℕ → Type 0
MarksFirst p [] marks = marks ≡ 0
MarksFirst p (b ∷ bytes) marks =
    (above : ℕ)
    × MatchBool (p b) (marks ≡ 256 * above + 128)
    ((marks ≡ 256 * above) × MarksFirst p bytes above)

-- no byte is written escaped
abbrev pub IsPlain : List ℕ → Type 0
IsPlain bytes = position_or_len is_escaped bytes ≡ length bytes
