-- What the text of a literal or a folded scalar is, by YAML 1.2.2, section 8.1. Texts are their bytes, with line feeds as line breaks.
use Rattle.std.specs.Prelude.{ℕ, ◌+◌, ◌-◌, ◌==◌, ◌&&◌, ◌||◌, Bool, true, false, not, nat_lt, nat_le, if◌then◌else◌, List, [], ◌∷◌, ◌++◌, length, slice_index}
use Rattle.ref_yaml.specs.Flow.{feeds, between, is_white}

-- What is after a header, `|` or `>` and the rest of its line (8.1.1): the lines after the first line break, which a carriage return is too, together with a line feed after it.
abbrev pub after_return : List ℕ → List ℕ
after_return [] = []
after_return (b ∷ t) = if b == 10 then t else b ∷ t

abbrev pub after_header : List ℕ → List ℕ
after_header [] = []
after_header (b ∷ t) = if b == 10 then t else if b == 13 then after_return t else after_header t

-- The chomping indicator of a header (8.1.1.2): `-` or `+`, at once or after a digit for the indentation, or else 0.
abbrev pub is_chomping : ℕ → Bool
is_chomping b = (b == 45) || (b == 43)

abbrev pub chomping_of : List ℕ → ℕ
chomping_of source =
    if is_chomping (slice_index source 1) then slice_index source 1
    else if (nat_le 49 (slice_index source 1) && nat_le (slice_index source 1) 57) && is_chomping (slice_index source 2) then slice_index source 2
    else 0

-- Lines without the spaces that they are indented by (8.1.1.1): at most so many of each line, and so many of this one.
abbrev pub without_indent : ℕ → ℕ → List ℕ → List ℕ
without_indent indent left [] = []
without_indent indent left (b ∷ t) =
    if b == 10 then 10 ∷ without_indent indent indent t
    else if (b == 32) && nat_lt 0 left then without_indent indent (left - 1) t
    else b ∷ without_indent indent 0 t

-- whether the last line has its line break, or there is none
abbrev pub is_ended : List ℕ → Bool
is_ended text = (length text == 0) || (slice_index text (length text - 1) == 10)

-- the lines of a body, the last one ended too
abbrev pub block_lines : ℕ → List ℕ → List ℕ
block_lines indent body = without_indent indent indent body ++ (if is_ended body then [] else 10 ∷ [])

-- Folded lines (8.1.3): as in quotes, but all line breaks stay before the first line, and beside a line that begins with white space. `inside` says
-- whether a line is begun, `was_white` whether the line before begins with white space or there is none, and `breaks` the line breaks since then.
abbrev pub folded_lines : Bool → Bool → ℕ → List ℕ → List ℕ
folded_lines inside was_white breaks [] = feeds breaks
folded_lines inside was_white breaks (b ∷ t) =
    if b == 10 then folded_lines false was_white (breaks + 1) t
    else if inside then b ∷ folded_lines true was_white breaks t
    else (if was_white || is_white b then feeds breaks else between breaks false) ++ b ∷ folded_lines true (is_white b) 0 t

-- What the last line breaks become (8.1.1.2): with `+` they stay, with `-` they go, and else one stays after a line that isn't empty.
abbrev pub last_feeds : ℕ → Bool → ℕ → List ℕ
last_feeds chomping has_text breaks =
    if chomping == 43 then feeds breaks
    else if (chomping == 45) || not has_text then []
    else if nat_lt 0 breaks then 10 ∷ [] else []

abbrev pub chomped : ℕ → Bool → ℕ → List ℕ → List ℕ
chomped chomping has_text breaks [] = last_feeds chomping has_text breaks
chomped chomping has_text breaks (b ∷ t) =
    if b == 10 then chomped chomping has_text (breaks + 1) t
    else feeds breaks ++ b ∷ chomped chomping true 0 t

-- the texts that a body is after `|` and after `>`
abbrev pub literal_text : ℕ → ℕ → List ℕ → List ℕ
literal_text chomping indent body = chomped chomping false 0 (block_lines indent body)

abbrev pub folded_text : ℕ → ℕ → List ℕ → List ℕ
folded_text chomping indent body = chomped chomping false 0 (folded_lines false true 0 (block_lines indent body))
