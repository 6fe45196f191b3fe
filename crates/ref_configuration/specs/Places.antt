-- Where a member of a text of TOML begins. A table that was read doesn't say where its members were, so the place is found by which
-- beginnings of the text have the member.
use Rattle.std.specs.Prelude.{◌==◌, ◌+◌, ◌||◌, ℕ, List, [], ◌∷◌, Bool, true, false, not, if◌then◌else◌, Option, Some, None, option_map, option_and_then, is_some, unwrap_or, take, drop, filter, fold, nat_le, ◌&&◌}
use Rattle.std.specs.List.{before_first}
use Rattle.std.specs.Option.{option_map_or}
use Rattle.toml.specs.Data.{Data, Members, array, get, get_item, get_member}
use Rattle.toml.specs.Parse.{parse_document}
use Rattle.ref_configuration.specs.Lines.{line_ends, place_at}

-- ---- whether a table has a member

-- what a key leads to: the member of a table, or of the item with this number of a list of tables
abbrev pub inner : ℕ → List ℕ → Data → Option Data
inner n key (array ds) = option_and_then (get key) (get_item n ds)
inner n key d = get key d

-- whether a list has an item with a number, where that isn't 0; any other value is there
abbrev pub is_there : ℕ → Data → Bool
is_there n (array ds) = (n == 0) || is_some (get_item n ds)
is_there n d = true

-- whether a value has what these keys and then the name lead to
abbrev pub has_below : List (List ℕ) → ℕ → List ℕ → Data → Bool
has_below [] n name d = is_some (inner n name d)
has_below (key ∷ keys) n name d = option_map_or (has_below keys n name) (inner n key d) false

-- whether a table has what these keys and then the name lead to
abbrev pub has : List (List ℕ) → ℕ → List ℕ → Members → Bool
has [] n name t = option_map_or (is_there n) (get_member name t) false
has (key ∷ keys) n name t = option_map_or (has_below keys n name) (get_member key t) false

-- ---- the beginnings of a text

-- whether a test holds of the table that a text is, where it is one
abbrev pub tells : (Members → Bool) → List ℕ → Option Bool
tells test text = option_map test (parse_document text)

-- whether a beginning is a table that passes a test; whether it is one that doesn't
abbrev pub passes : (Members → Bool) → List ℕ → ℕ → Bool
passes test text end = unwrap_or (tells test (take end text)) false

abbrev pub lacks : (Members → Bool) → List ℕ → ℕ → Bool
lacks test text end = not (unwrap_or (tells test (take end text)) true)

-- the line ends before which the text is a table that doesn't pass, up to the first before which it passes
abbrev pub lacking : (Members → Bool) → List ℕ → List ℕ
lacking test text = filter (lacks test text) (before_first (passes test text) (line_ends 0 text))

-- the offset after the last of them, or the beginning
abbrev pub after_lacking : (Members → Bool) → List ℕ → ℕ
after_lacking test text = fold (λ _ end. end + 1) 0 (lacking test text)

-- ---- the place

-- white space of ASCII: 9 to 13 and 32
abbrev pub is_white : ℕ → Bool
is_white b = (nat_le 9 b && nat_le b 13) || b == 32

-- the offset of the first byte that is neither white space nor in a comment; the text begins at an offset, in a comment or not
abbrev pub first_sound : Bool → ℕ → List ℕ → Option ℕ
first_sound is_comment n [] = None
first_sound true n (b ∷ s) = first_sound (not (b == 10)) (n + 1) s
first_sound false n (b ∷ s) =
    if is_white b then first_sound false (n + 1) s
    else (if b == 35 then first_sound true (n + 1) s else Some n)

-- that offset from another one on, or that one where there is none
abbrev pub sound_from : List ℕ → ℕ → ℕ
sound_from text begin = unwrap_or (first_sound false begin (drop begin text)) begin

-- the line and the column of a member
abbrev pub place_of : List (List ℕ) → ℕ → List ℕ → List ℕ → ℕ × ℕ
place_of above n name text =
    place_at text (sound_from text (after_lacking (has above n name) text))
