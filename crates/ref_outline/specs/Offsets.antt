-- Offsets of lines, columns and tokens in the bytes of a text.
use Rattle.std.specs.Prelude.{ℕ, ◌+◌, ◌-◌, ◌==◌, ◌||◌, ◌&&◌, List, [], ◌∷◌, Bool, true, false, not, drop, nat_lt, nat_le, if◌then◌else◌}

-- the first byte of a character (RFC 3629, 3)
abbrev pub begins_character : ℕ → Bool
begins_character b = nat_lt b 128 || nat_le 192 b

-- how many bytes are before a line, from 0: all where there are fewer lines
abbrev pub of_line : ℕ → List ℕ → ℕ
of_line n [] = 0
of_line n (b ∷ rest) =
    if n == 0 then 0 else 1 + of_line (if b == 10 then n - 1 else n) rest

-- how many bytes of a line are before a character, from 0: up to its end where it has fewer
abbrev pub of_character : ℕ → List ℕ → ℕ
of_character n [] = 0
of_character n (b ∷ rest) =
    if begins_character b
    then (if n == 0 || b == 10 then 0 else 1 + of_character (n - 1) rest)
    else 1 + of_character n rest

-- the offset of a line and a column, each from 1
abbrev pub offset_of : ℕ → ℕ → List ℕ → ℕ
offset_of line column text =
    of_line (line - 1) text + of_character (column - 1) (drop (of_line (line - 1) text) text)

-- how many bytes are up to a quote, with it, or else to the end of the line; the byte before these escapes the first, or doesn't
abbrev pub quoted_count : ℕ → Bool → Bool → List ℕ → ℕ
quoted_count quote escapes escaped [] = 0
quoted_count quote escapes escaped (b ∷ rest) =
    if not escaped && b == quote then 1
    else (if not escaped && b == 10 then 0
    else 1 + quoted_count quote escapes (not escaped && escapes && b == 92) rest)

abbrev pub begins_with_blank : List ℕ → Bool
begins_with_blank [] = true
begins_with_blank (b ∷ rest) = b == 32 || b == 9 || b == 10 || b == 13

abbrev pub begins_with_hash : List ℕ → Bool
begins_with_hash [] = false
begins_with_hash (b ∷ rest) = b == 35

-- a scalar without quotes ends before a byte: at the end of its line, a comma or a bracket that closes, at a colon before a blank, or at a
-- blank before a comment (YAML 1.2.2, 7.3.3)
abbrev pub ends_plain : ℕ → List ℕ → Bool
ends_plain b rest =
    b == 10 || b == 13 || b == 44 || b == 125 || b == 93 || (b == 58 && begins_with_blank rest)
    || ((b == 32 || b == 9) && begins_with_hash rest)

-- how many bytes a scalar without quotes has, without the blanks at its end: so many were passed, and up to so many it goes on
abbrev pub plain_count : ℕ → ℕ → List ℕ → ℕ
plain_count passed end [] = end
plain_count passed end (b ∷ rest) =
    if ends_plain b rest then end
    else plain_count (passed + 1) (if b == 32 || b == 9 then end else passed + 1) rest

-- how many bytes the token has that bytes begin with: a key or a scalar, or the bracket of an object or an array
abbrev pub token_count : List ℕ → ℕ
token_count [] = 0
token_count (b ∷ rest) =
    if b == 34 then 1 + quoted_count 34 true false rest
    else (if b == 39 then 1 + quoted_count 39 false false rest
    else (if b == 123 || b == 91 then 1 else plain_count 0 0 (b ∷ rest)))

-- the offset after the token that begins at one
abbrev pub token_end : ℕ → List ℕ → ℕ
token_end start text = start + token_count (drop start text)
