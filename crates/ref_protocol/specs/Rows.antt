-- A literal text for rows that compute.
use Rattle.std.specs.Prelude.{ℕ, List, [], ◌∷◌}

-- "a", a line feed, U+00E9, U+20AC and U+1F600, of two, three and four bytes (RFC 3629, 3), "b", a carriage return and a line feed, "c", a carriage return, "d"
abbrev pub lines : List ℕ
lines =
    97 ∷ 10 ∷ 195 ∷ 169 ∷ 226 ∷ 130 ∷ 172 ∷ 240 ∷ 159 ∷ 152 ∷ 128 ∷ 98 ∷ 13 ∷ 10 ∷ 99 ∷ 13 ∷ 100 ∷ []
