-- What plain scalars are, by the core schema of YAML 1.2.2, section 10.3.2. Texts are their bytes.
use Rattle.std.specs.Prelude.{ℕ, ◌^◌, ◌==◌, ◌&&◌, ◌||◌, Bool, true, false, nat_lt, if◌then◌else◌, List, [], ◌∷◌, ◌++◌, length, drop, slice_index, codes, Option, Some, None, option_map, unwrap_or}
use Rattle.std.specs.Char.{is_ascii_digit, is_digit}
use Rattle.std.specs.Str.{bytes_eq}
use Rattle.std.specs.Str.Parse.{digits_value}
use Rattle.serde_json.specs.Data.{Data, null, boolean, number, string, unsigned}
use Rattle.serde_json.specs.Read.{number_of}

abbrev pub nothing_words : List (List ℕ)
nothing_words = codes "" ∷ codes "~" ∷ []

abbrev pub null_words : List (List ℕ)
null_words = codes "null" ∷ codes "Null" ∷ codes "NULL" ∷ []

abbrev pub true_words : List (List ℕ)
true_words = codes "true" ∷ codes "True" ∷ codes "TRUE" ∷ []

abbrev pub false_words : List (List ℕ)
false_words = codes "false" ∷ codes "False" ∷ codes "FALSE" ∷ []

abbrev pub infinite_words : List (List ℕ)
infinite_words = codes ".inf" ∷ codes ".Inf" ∷ codes ".INF" ∷ []

abbrev pub no_number_words : List (List ℕ)
no_number_words = codes ".nan" ∷ codes ".NaN" ∷ codes ".NAN" ∷ []

-- whether a text is one of these
abbrev pub is_one_of : List (List ℕ) → List ℕ → Bool
is_one_of [] s = false
is_one_of (w ∷ ws) s = bytes_eq s w || is_one_of ws s

-- a text after its sign
abbrev pub after_sign : List ℕ → List ℕ
after_sign [] = []
after_sign (b ∷ t) = if (b == 45) || (b == 43) then t else b ∷ t

-- the digits that a text begins with, and what is after them
abbrev pub digits : List ℕ → List ℕ
digits [] = []
digits (b ∷ t) = if is_ascii_digit b then b ∷ digits t else []

abbrev pub after_digits : List ℕ → List ℕ
after_digits [] = []
after_digits (b ∷ t) = if is_ascii_digit b then after_digits t else b ∷ t

-- the digits after the point that a text begins with, and what is after them
abbrev pub fraction : List ℕ → List ℕ
fraction [] = []
fraction (b ∷ t) = if b == 46 then digits t else []

abbrev pub after_fraction : List ℕ → List ℕ
after_fraction [] = []
after_fraction (b ∷ t) = if b == 46 then after_digits t else b ∷ t

-- whether a text is digits, one at least, and nothing else
abbrev pub are_digits : List ℕ → Bool
are_digits t = nat_lt 0 (length (digits t)) && (length (after_digits t) == 0)

-- whether a text is `[eE] [-+]? [0-9]+`, or nothing
abbrev pub is_exponent : List ℕ → Bool
is_exponent [] = true
is_exponent (b ∷ t) = ((b == 101) || (b == 69)) && are_digits (after_sign t)

-- the parts of a decimal number, `[-+]? ( \. [0-9]+ | [0-9]+ ( \. [0-9]* )? ) ( [eE] [-+]? [0-9]+ )?`
pub record Parts : Type 0 where
  pub negative : Bool
  pub whole : List ℕ
  pub point : Bool
  pub fraction : List ℕ
  pub exponent : List ℕ

unfoldable pub parts_of : List ℕ → Parts
parts_of s = record {
  negative = slice_index s 0 == 45;
  whole = digits (after_sign s);
  point = slice_index (after_digits (after_sign s)) 0 == 46;
  fraction = fraction (after_digits (after_sign s));
  exponent = after_fraction (after_digits (after_sign s));
}

-- whether a text of these parts is a decimal number
abbrev pub is_decimal : Parts → Bool
is_decimal p = (nat_lt 0 (length p.whole) || nat_lt 0 (length p.fraction)) && is_exponent p.exponent

-- digits without zeros before them, and one at least
abbrev pub without_zeros : List ℕ → List ℕ
without_zeros [] = 48 ∷ []
without_zeros (b ∷ t) = if b == 48 then without_zeros t else b ∷ t

-- a point and the digits after it, one at least
abbrev pub with_point : Bool → List ℕ → List ℕ
with_point false t = []
with_point true [] = codes ".0"
with_point true (b ∷ t) = 46 ∷ b ∷ t

-- the number as JSON writes it: no plus, no zeros before it, and digits on both sides of a point
abbrev pub as_json : Parts → List ℕ
as_json p = (if p.negative then 45 ∷ [] else []) ++ without_zeros p.whole ++ with_point p.point p.fraction ++ p.exponent

-- whether a text is an infinite number, or no number
abbrev pub is_infinite : List ℕ → Bool
is_infinite s = is_one_of infinite_words (after_sign s) || is_one_of no_number_words s

-- whether bytes are digits in a radix, and the number that they write, where it fits 64 bits
abbrev pub are_digits_in : ℕ → List ℕ → Bool
are_digits_in radix [] = true
are_digits_in radix (b ∷ t) = is_digit b radix && are_digits_in radix t

abbrev pub digits_number : ℕ → List ℕ → Option Data
digits_number radix t = if nat_lt (digits_value radix t) (2 ^ 64) then Some (number (unsigned (digits_value radix t))) else None

-- `0o [0-7]+` and `0x [0-9a-fA-F]+`
abbrev pub is_in_radix : ℕ → ℕ → List ℕ → Bool
is_in_radix letter radix s = (slice_index s 0 == 48) && (slice_index s 1 == letter) && nat_lt 2 (length s) && are_digits_in radix (drop 2 s)

-- the number that a text of JSON writes, which is nothing where it is too large
abbrev pub json_number : List ℕ → Option Data
json_number s = option_map number (number_of s)

-- the number that a text is, which is nothing where JSON doesn't have it; or nothing where it is no number
unfoldable pub number_value : List ℕ → Option (Option Data)
number_value s =
    if is_decimal (parts_of s) then Some (json_number (as_json (parts_of s)))
    else if is_infinite s then Some None
    else if is_in_radix 111 8 s then Some (digits_number 8 (drop 2 s))
    else if is_in_radix 120 16 s then Some (digits_number 16 (drop 2 s))
    else None

-- the value of a plain scalar, which is nothing for a number that JSON doesn't have
abbrev pub core_value : List ℕ → Option Data
core_value s =
    if is_one_of nothing_words s || is_one_of null_words s then Some null
    else if is_one_of true_words s then Some (boolean true)
    else if is_one_of false_words s then Some (boolean false)
    else unwrap_or (number_value s) (Some (string s))
