-- Pointer text: JSON Pointer, RFC 6901. Texts are lists of bytes.
use Rattle.std.specs.Prelude.{ℕ, ◌^◌, Bool, false, not, ◌&&◌, ◌||◌, ◌==◌, nat_lt, List, [], ◌∷◌, codes, decimal, flat_map, position, Option, Some, None, option_and_then, if◌then◌else◌}
use Rattle.std.specs.List.{slice_split}
use Rattle.std.specs.Str.{all_ascii_digits}
use Rattle.std.specs.Str.Parse.{digits_value}
use Rattle.serde_json.specs.Data.{Data, array, object}
use Rattle.serde_json.specs.Find.{get_item, get_member}
use Rattle.ref_paths.specs.Path.{Part, Key, Index}

-- the characters that are escaped (RFC 6901, section 3)
abbrev pub tilde : ℕ
tilde = 126

abbrev pub slash : ℕ
slash = 47

-- the digits of the escapes `~0` and `~1` (section 3)
abbrev pub digit_zero : ℕ
digit_zero = 48

abbrev pub digit_one : ℕ
digit_one = 49

-- ---- writing

-- the byte is one that a reference token writes escaped (section 3)
abbrev pub is_escaped : ℕ → Bool
is_escaped b = b == tilde || b == slash

-- what a byte of a key becomes: `~0` for `~`, `~1` for `/`, and else itself (section 3)
abbrev pub escaped_byte : ℕ → List ℕ
escaped_byte b = if b == tilde then codes "~0" else (if b == slash then codes "~1" else b ∷ [])

-- a key as a reference token (section 3)
abbrev pub escape : List ℕ → List ℕ
escape key = flat_map escaped_byte key

-- a part of a path as a reference token: a key escaped, an index in decimal digits (sections 3 and 4)
abbrev pub part_text : Part → List ℕ
part_text (Key key) = escape key
part_text (Index i) = decimal i

-- the pointer text of a path: each part with a `/` before it (section 3)
abbrev pub pointer_text : List Part → List ℕ
pointer_text path = flat_map (λ part. slash ∷ part_text part) path

-- where the first byte is that a reference token writes escaped
abbrev pub first_escape : List ℕ → Option ℕ
first_escape bytes = position is_escaped bytes

-- ---- reading

-- one replacement over a whole text, from the left: each `~` before this digit becomes, with it, this byte
abbrev pub replace_escape : ℕ → ℕ → List ℕ → List ℕ
replace_escape digit byte [] = []
replace_escape digit byte (b ∷ []) = b ∷ []
replace_escape digit byte (b ∷ c ∷ rest) =
    if b == tilde && c == digit
    then byte ∷ replace_escape digit byte rest
    else b ∷ replace_escape digit byte (c ∷ rest)

-- a reference token as a key: first each `~1` becomes `/`, then each `~0` becomes `~` (section 4)
abbrev pub unescape : List ℕ → List ℕ
unescape token = replace_escape digit_zero tilde (replace_escape digit_one slash token)

-- digits, and no 0 before another digit (section 4, `array-index`)
abbrev pub is_index_text : List ℕ → Bool
is_index_text [] = false
is_index_text (d ∷ []) = all_ascii_digits (d ∷ [])
is_index_text (d ∷ e ∷ ds) = not (d == digit_zero) && all_ascii_digits (d ∷ e ∷ ds)

-- the number that an index's text stands for, if it is one and fits 64 bits
abbrev pub parse_index : List ℕ → Option ℕ
parse_index text =
    if is_index_text text && nat_lt (digits_value 10 text) (2 ^ 64) then Some (digits_value 10 text)
    else None

-- the reference tokens of what follows a pointer's first `/` (section 3)
abbrev pub tokens : List ℕ → List (List ℕ)
tokens text = slice_split (λ b. b == slash) text

-- one step: the unescaped token is an array's index or an object's key (section 4)
abbrev pub step : Data → List ℕ → Option Data
step (array ds) key = option_and_then (λ i. get_item i ds) (parse_index key)
step (object ms) key = get_member key ms
step _ key = None

-- the value that these reference tokens lead to (section 4)
abbrev pub value_along : Data → List (List ℕ) → Option Data
value_along d [] = Some d
value_along d (token ∷ more) = option_and_then (λ e. value_along e more) (step d (unescape token))

-- the value that a pointer's text means: the empty text is the document, and any other begins with `/` (sections 3 to 5)
abbrev pub evaluate : Data → List ℕ → Option Data
evaluate d [] = Some d
evaluate d (b ∷ rest) = if b == slash then value_along d (tokens rest) else None
