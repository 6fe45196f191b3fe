-- Positions of the Language Server Protocol 3.17 in the bytes of a text: a line, and units on it, each from 0.
use Rattle.std.specs.Prelude.{ℕ, ◌+◌, ◌-◌, ◌==◌, ◌||◌, ◌&&◌, List, [], ◌∷◌, Bool, false, not, cond, drop, nat_lt, nat_le, if◌then◌else◌, bytes_eq, codes, Option, Some, None}
use Rattle.ref_protocol.specs.declared.encoding.Encoding.{Encoding}
use Rattle.ref_protocol.specs.declared.encoding.Encoding.TheVariants.{Utf8, Utf16, Utf32}

-- the first byte of a character (RFC 3629, 3)
abbrev pub begins_character : ℕ → Bool
begins_character b = nat_lt b 128 || nat_le 192 b

-- how many bytes the character has that a byte begins (RFC 3629, 3)
abbrev pub bytes_of : ℕ → ℕ
bytes_of b = cond (nat_lt b 192) 1 (cond (nat_lt b 224) 2 (cond (nat_lt b 240) 3 4))

-- how many units it has: bytes, units of UTF-16 (RFC 2781, 2.1), or itself
abbrev pub units_of : Encoding → ℕ → ℕ
units_of Utf8 b = bytes_of b
units_of Utf16 b = cond (nat_lt b 240) 1 2
units_of Utf32 b = 1

-- the name of an encoding (3.17, PositionEncodingKind)
abbrev pub name_of : Encoding → List ℕ
name_of Utf8 = codes "utf-8"
name_of Utf16 = codes "utf-16"
name_of Utf32 = codes "utf-32"

-- the encoding with a name
abbrev pub encoding_of : List ℕ → Option Encoding
encoding_of name =
    if bytes_eq name (name_of Utf8) then Some Utf8
    else (if bytes_eq name (name_of Utf16) then Some Utf16
    else (if bytes_eq name (name_of Utf32) then Some Utf32 else None))

-- a line feed or a carriage return
abbrev pub is_break : ℕ → Bool
is_break b = b == 10 || b == 13

abbrev pub begins_with_feed : List ℕ → Bool
begins_with_feed [] = false
begins_with_feed (b ∷ _) = b == 10

-- a line ends after a line feed, after a carriage return, and after both
abbrev pub ends_line : ℕ → List ℕ → Bool
ends_line b rest = b == 10 || (b == 13 && not (begins_with_feed rest))

-- how many lines are left after a byte
abbrev pub lines_left : ℕ → ℕ → List ℕ → ℕ
lines_left n b rest = if ends_line b rest then n - 1 else n

-- how many bytes are before a line: all where there are fewer lines
abbrev pub before_line : ℕ → List ℕ → ℕ
before_line n [] = 0
before_line n (b ∷ rest) = if n == 0 then 0 else 1 + before_line (lines_left n b rest) rest

-- how many bytes of a line are before so many units of it: up to its end where there are fewer, and up to the character that they end in
abbrev pub before_units : Encoding → ℕ → List ℕ → ℕ
before_units e n [] = 0
before_units e n (b ∷ rest) =
    if begins_character b
    then (if is_break b || nat_lt n (units_of e b) then 0 else 1 + before_units e (n - units_of e b) rest)
    else 1 + before_units e n rest

-- the offset that a position means
abbrev pub offset_of : Encoding → ℕ → ℕ → List ℕ → ℕ
offset_of e line units text = before_line line text + before_units e units (drop (before_line line text) text)

-- how many units a byte adds to its line: itself, or those of the character that it begins
abbrev pub added : Encoding → ℕ → ℕ
added Utf8 b = 1
added Utf16 b = if begins_character b then units_of Utf16 b else 0
added Utf32 b = if begins_character b then 1 else 0

-- the line after a byte
abbrev pub next_line : ℕ → ℕ → List ℕ → ℕ
next_line line b rest = if ends_line b rest then line + 1 else line

-- the units on its line after a byte
abbrev pub next_units : Encoding → ℕ → ℕ → List ℕ → ℕ
next_units e units b rest = if ends_line b rest then 0 else units + added e b

-- the line and the units so many bytes after those
abbrev pub place_of : Encoding → ℕ → ℕ → ℕ → List ℕ → ℕ × ℕ
place_of e line units n [] = (line, units)
place_of e line units n (b ∷ rest) =
    if n == 0 then (line, units)
    else place_of e (next_line line b rest) (next_units e units b rest) (n - 1) rest
