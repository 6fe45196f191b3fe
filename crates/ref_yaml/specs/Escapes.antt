-- Escapes in double quotes, by YAML 1.2.2, section 5.7. Texts are their bytes, characters their numbers.
use Rattle.std.specs.Prelude.{ℕ, ◌+◌, ◌-◌, ◌*◌, ◌==◌, ◌&&◌, ◌||◌, Bool, true, false, not, nat_lt, nat_le, if◌then◌else◌, List, [], ◌∷◌, ◌++◌, Option, Some, None, option_map, option_and_then}
use Rattle.std.specs.Char.{encode_utf8}

-- the character of an escape without digits, by its letter
abbrev pub short_escape : ℕ → Option ℕ
short_escape b =
    if b == 48 then Some 0
    else if b == 97 then Some 7
    else if b == 98 then Some 8
    else if (b == 116) || (b == 9) then Some 9
    else if b == 110 then Some 10
    else if b == 118 then Some 11
    else if b == 102 then Some 12
    else if b == 114 then Some 13
    else if b == 101 then Some 27
    else if b == 32 then Some 32
    else if b == 34 then Some 34
    else if b == 47 then Some 47
    else if b == 92 then Some 92
    else if b == 78 then Some 133
    else if b == 95 then Some 160
    else if b == 76 then Some 8232
    else if b == 80 then Some 8233
    else None

-- how many digits an escape has, by its letter
abbrev pub digits_of : ℕ → ℕ
digits_of b = if b == 120 then 2 else if b == 117 then 4 else if b == 85 then 8 else 0

-- the number of a hexadecimal digit
abbrev pub hex_digit : ℕ → Option ℕ
hex_digit b =
    if nat_le 48 b && nat_le b 57 then Some (b - 48)
    else if nat_le 97 b && nat_le b 102 then Some (b - 87)
    else if nat_le 65 b && nat_le b 70 then Some (b - 55)
    else None

-- the first and the second of two numbers that are one character, as JSON has them (RFC 8259, 7)
abbrev pub is_first : ℕ → Bool
is_first n = nat_le 55296 n && nat_lt n 56320

abbrev pub is_second : ℕ → Bool
is_second n = nat_le 56320 n && nat_lt n 57344

-- the character of a number, after the first of two or 0
abbrev pub character_of : ℕ → ℕ → Option ℕ
character_of first n =
    if first == 0 then (if nat_lt n 55296 || (nat_le 57344 n && nat_lt n 1114112) then Some n else None)
    else if is_first first && is_second n then Some (65536 + (first - 55296) * 1024 + (n - 56320))
    else None

-- What a number adds to a text, and the first of two that it is, or 0.
abbrev pub number_text : ℕ → ℕ → Option (List ℕ × ℕ)
number_text first n =
    if (first == 0) && is_first n then Some ([], n)
    else option_map (λ c. (encode_utf8 c, 0)) (character_of first n)

-- How much of an escape is read: whether a backslash is before, how many digits are left and their number so far, and the first of two numbers, or 0.
pub record Reading : Type 0 where
  pub after : Bool
  pub left : ℕ
  pub number : ℕ
  pub first : ℕ

-- Of what is read after a byte: what it adds to the text, and how much of an escape is read then; or nothing where it is wrong.
abbrev pub by_letter : ℕ → ℕ → Option (List ℕ × Reading)
by_letter first b =
    if nat_lt 0 first && not (b == 117) then None
    else if nat_lt 0 (digits_of b) then Some ([], record { after = false; left = digits_of b; number = 0; first = first })
    else option_map (λ c. (encode_utf8 c, record { after = false; left = 0; number = 0; first = first })) (short_escape b)

abbrev pub by_number : ℕ → ℕ → ℕ → Option (List ℕ × Reading)
by_number left first n =
    if nat_lt 1 left then Some ([], record { after = false; left = left - 1; number = n; first = first })
    else option_map (λ p. (p.0, record { after = false; left = 0; number = 0; first = p.1 })) (number_text first n)

abbrev pub by_digit : ℕ → ℕ → ℕ → ℕ → Option (List ℕ × Reading)
by_digit left n first b =
    if nat_lt 268435455 n then None
    else option_and_then (λ d. by_number left first (n * 16 + d)) (hex_digit b)

abbrev pub by_byte : Reading → ℕ → Option (List ℕ × Reading)
by_byte r b =
    if r.after then by_letter r.first b
    else if nat_lt 0 r.left then by_digit r.left r.number r.first b
    else if b == 92 then Some ([], record { after = true; left = 0; number = 0; first = r.first })
    else if nat_lt 0 r.first then None
    else Some (b ∷ [], record { after = false; left = 0; number = 0; first = 0 })

-- The text of one with escapes, or nothing.
abbrev pub unescaped_from : Reading → List ℕ → Option (List ℕ)
unescaped_from r [] = if r.after || nat_lt 0 r.left || nat_lt 0 r.first then None else Some []
unescaped_from r (b ∷ t) = option_and_then (λ p. option_map (λ s. p.0 ++ s) (unescaped_from p.1 t)) (by_byte r b)

-- nothing of an escape is read
abbrev pub nothing_read : Reading
nothing_read = record { after = false; left = 0; number = 0; first = 0 }

abbrev pub unescaped : List ℕ → Option (List ℕ)
unescaped = unescaped_from nothing_read
