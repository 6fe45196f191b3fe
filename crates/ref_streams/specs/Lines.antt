-- The lines of bytes.
use Rattle.std.specs.Prelude.{ℕ, ◌==◌, List, [], ◌∷◌, ◌++◌, if◌then◌else◌}

-- the line that began with the second bytes and goes on with the first, and the lines after it: each ends at a line
-- feed, and the last may end with the bytes
abbrev pub lines_after : List ℕ → List ℕ → List (List ℕ)
lines_after [] [] = []
lines_after [] (b ∷ begun) = (b ∷ begun) ∷ []
lines_after (x ∷ rest) begun =
    if x == 10 then begun ∷ lines_after rest [] else lines_after rest (begun ++ x ∷ [])

-- the lines of bytes, without their ends
unfoldable pub lines : List ℕ → List (List ℕ)
lines bytes = lines_after bytes []

-- those of them that end at a line feed
abbrev pub whole_lines_after : List ℕ → List ℕ → List (List ℕ)
whole_lines_after [] begun = []
whole_lines_after (x ∷ rest) begun =
    if x == 10 then begun ∷ whole_lines_after rest [] else whole_lines_after rest (begun ++ x ∷ [])

-- the lines of bytes that end at a line feed
unfoldable pub whole_lines : List ℕ → List (List ℕ)
whole_lines bytes = whole_lines_after bytes []
