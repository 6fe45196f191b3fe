-- Lines and columns of the bytes of a text.
use Rattle.std.specs.Prelude.{◌≡◌, ◌≤◌, ◌<◌, ◌+◌, ◌==◌, ◌||◌, ◌&&◌, ℕ, List, Bool, true, false, cond, take, length, nat_lt, nat_le, get_or}
use Rattle.std.specs.List.{fold}

-- the first byte of a character (RFC 3629, 3)
abbrev pub begins_character : ℕ → Bool
begins_character b = nat_lt b 128 || nat_le 192 b

-- the line after a byte: a line feed ends one
abbrev pub next_line : ℕ → ℕ → ℕ
next_line line b = cond (b == 10) (line + 1) line

-- the column after a byte: 1 after a line feed, and else one more for each character
abbrev pub next_column : ℕ → ℕ → ℕ
next_column column b = cond (b == 10) 1 (cond (begins_character b) (column + 1) column)

-- how many units of UTF-16 the character has that a byte begins (RFC 3629, 3; RFC 2781, 2.1): two from U+10000 on
abbrev pub units_of : ℕ → ℕ
units_of b = cond (begins_character b) (cond (nat_le 240 b) 2 1) 0

-- the unit after a byte: 1 after a line feed, and else those of the character more
abbrev pub next_unit : ℕ → ℕ → ℕ
next_unit unit b = cond (b == 10) 1 (unit + units_of b)

-- the line at an offset of a text
abbrev pub line_of : List ℕ → ℕ → ℕ
line_of text offset = fold next_line 1 (take offset text)

-- the column at an offset of a text
abbrev pub column_of : List ℕ → ℕ → ℕ
column_of text offset = fold next_column 1 (take offset text)

-- the column at an offset of a text, in units of UTF-16
abbrev pub unit_of : List ℕ → ℕ → ℕ
unit_of text offset = fold next_unit 1 (take offset text)

-- that column, and its bounds
pub record IsUnitAt (text : List ℕ) (offset unit : ℕ) : Type 0 where
  pub column : unit ≡ unit_of text offset
  pub first : 1 ≤ unit
  pub few : unit ≤ offset + offset + 1

-- the line and the column at an offset within a text
pub record IsAt (text : List ℕ) (offset on at : ℕ) : Type 0 where
  pub within : offset ≤ length text
  pub line : on ≡ line_of text offset
  pub column : at ≡ column_of text offset
  pub first_line : 1 ≤ on
  pub first_column : 1 ≤ at
  pub few_lines : on ≤ offset + 1
  pub few_columns : at ≤ offset + 1

-- whether an offset is the end of the text, or between characters and at or after a column of a line, in units of UTF-16, or at the end of that line
abbrev pub is_beyond : List ℕ → ℕ → ℕ → ℕ → Bool
is_beyond text line unit offset =
    nat_le (length text) offset
    || (begins_character (get_or text offset 0)
    && (nat_lt line (line_of text offset)
    || ((line_of text offset == line)
    && (nat_le unit (unit_of text offset) || get_or text offset 0 == 10))))

-- the first such offset
pub record IsAtUnit (text : List ℕ) (line unit offset : ℕ) : Type 0 where
  pub beyond : is_beyond text line unit offset ≡ true
  pub first : (k : ℕ) → k < offset → is_beyond text line unit k ≡ false
