-- Lines and columns of a text, both from 1. A column counts bytes.
use Rattle.std.specs.Prelude.{◌==◌, ◌+◌, ℕ, List, [], ◌∷◌, if◌then◌else◌, take, count_by, fold}

-- one more than the line feeds before an offset
abbrev pub line_of : List ℕ → ℕ → ℕ
line_of text offset = count_by (λ b. b == 10) (take offset text) + 1

-- the column after a byte: 1 after a line feed
abbrev pub next_column : ℕ → ℕ → ℕ
next_column column b = if b == 10 then 1 else column + 1

-- one more than the bytes between an offset and the line feed before it
abbrev pub column_of : List ℕ → ℕ → ℕ
column_of text offset = fold next_column 1 (take offset text)

abbrev pub place_at : List ℕ → ℕ → ℕ × ℕ
place_at text offset = (line_of text offset, column_of text offset)

-- the offsets of the line feeds of a text that begins at an offset
abbrev pub line_ends : ℕ → List ℕ → List ℕ
line_ends n [] = []
line_ends n (b ∷ s) = if b == 10 then n ∷ line_ends (n + 1) s else line_ends (n + 1) s
