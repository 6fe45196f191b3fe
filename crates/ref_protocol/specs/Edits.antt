-- Changes of a text.
use Rattle.std.specs.Prelude.{ℕ, ◌≤◌, ◌++◌, List, take, drop, IsCharBoundary}

-- a text with another one in place of what is between two offsets
abbrev pub with_range : List ℕ → ℕ → ℕ → List ℕ → List ℕ
with_range text start end new = take start text ++ new ++ drop end text

-- offsets between which a text may be replaced: both are between characters
abbrev pub IsRange : List ℕ → ℕ → ℕ → Type 0
IsRange text start end = (start ≤ end) × IsCharBoundary text start × IsCharBoundary text end
