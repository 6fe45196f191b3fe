-- Frames of the Language Server Protocol 3.17 ("Base Protocol"): a head of lines, each of which a carriage return and a line feed end, an empty
-- line, and as many bytes as the line `Content-Length` of the head says.
use Rattle.std.specs.Prelude.{ℕ, ◌+◌, ◌*◌, ◌-◌, ◌≤◌, ◌==◌, ◌||◌, ◌&&◌, List, [], ◌∷◌, Bool, true, false, Option, Some, None, nat_lt, nat_le, min, length, take, drop, if◌then◌else◌}
use Rattle.ref_protocol.specs.declared.frames.Frame.{Frame}
use Rattle.ref_protocol.specs.declared.frames.Frame.TheVariants.{Part, Whole, NoLength, TooLong}

-- how many bytes a frame has at most after its head: 256 MB
abbrev pub most : ℕ
most = 268435456

-- how many bytes a head has at most before the empty line that ends it
abbrev pub most_of_head : ℕ
most_of_head = 8192

-- bytes begin with the end of a line and an empty one
abbrev pub ends_head : List ℕ → Bool
ends_head (a ∷ b ∷ c ∷ d ∷ rest) = a == 13 && b == 10 && c == 13 && d == 10
ends_head rest = false

-- the offset after the empty line that ends a head, of which so many bytes were passed
abbrev pub head_end : ℕ → List ℕ → Option ℕ
head_end passed [] = None
head_end passed (b ∷ rest) =
    if passed == most_of_head then None
    else (if ends_head (b ∷ rest) then Some (passed + 4) else head_end (passed + 1) rest)

-- an ASCII letter in its small form
abbrev pub small : ℕ → ℕ
small b = if nat_le 65 b && nat_le b 90 then b + 32 else b

-- bytes begin with a name, in any case
abbrev pub has_name : List ℕ → List ℕ → Bool
has_name [] bytes = true
has_name (own ∷ name) [] = false
has_name (own ∷ name) (b ∷ rest) = if small b == own then has_name name rest else false

-- "content-length:"
abbrev pub name_of_length : List ℕ
name_of_length =
    99 ∷ 111 ∷ 110 ∷ 116 ∷ 101 ∷ 110 ∷ 116 ∷ 45 ∷ 108 ∷ 101 ∷ 110 ∷ 103 ∷ 116 ∷ 104 ∷ 58 ∷ []

-- a line that begins here says a length
unfoldable pub says_length : List ℕ → Bool
says_length bytes = has_name name_of_length bytes

abbrev pub is_digit : ℕ → Bool
is_digit b = nat_le 48 b && nat_lt b 58

abbrev pub is_blank : ℕ → Bool
is_blank b = b == 32 || b == 9

abbrev pub is_break : ℕ → Bool
is_break b = b == 13 || b == 10

-- a number with one digit more; one beyond the greatest stands for all that are beyond it
abbrev pub with_digit : ℕ → ℕ → ℕ
with_digit n b = min (n * 10 + (b - 48)) (most + 1)

-- a number, where nothing but blanks is after it on its line
abbrev pub number_at_end : ℕ → List ℕ → Option ℕ
number_at_end n [] = Some n
number_at_end n (b ∷ rest) =
    if is_break b then Some n else (if is_blank b then number_at_end n rest else None)

-- the number that goes on with the digits at the beginning of bytes
abbrev pub number_on : ℕ → List ℕ → Option ℕ
number_on n [] = Some n
number_on n (b ∷ rest) =
    if is_digit b then number_on (with_digit n b) rest else number_at_end n (b ∷ rest)

-- the number at the beginning of bytes, after blanks
abbrev pub number_in : List ℕ → Option ℕ
number_in [] = None
number_in (b ∷ rest) =
    if is_digit b then number_on (with_digit 0 b) rest
    else (if is_blank b then number_in rest else None)

-- the length that the first line of a head says that begins with its name; a line begins here, or doesn't
abbrev pub length_in : List ℕ → Bool → Option ℕ
length_in [] begins = None
length_in (b ∷ rest) begins =
    if begins && says_length (b ∷ rest) then number_in (drop 15 (b ∷ rest))
    else length_in rest (b == 10)

-- a frame by the length that its head says: how many bytes there are after the head, and where it ends
abbrev pub frame_of : ℕ → ℕ → Option ℕ → Frame
frame_of given start None = NoLength
frame_of given start (Some n) =
    if nat_lt most n then TooLong else (if nat_le n given then Whole start (start + n) else Part)

abbrev pub frame_after : List ℕ → ℕ → Frame
frame_after bytes start =
    frame_of (length bytes - start) start (length_in (take start bytes) true)

-- what bytes begin with, by where their head ends
abbrev pub frame_by : List ℕ → Option ℕ → Frame
frame_by bytes (Some start) = frame_after bytes start
frame_by bytes None = if nat_lt most_of_head (length bytes) then NoLength else Part

-- what bytes begin with
unfoldable pub frame_in : List ℕ → Frame
frame_in bytes = frame_by bytes (head_end 0 bytes)

-- the content of a whole frame is among the bytes
abbrev pub IsWithin : Frame → List ℕ → Type 0
IsWithin (Whole start end) bytes = (start ≤ end) × (end ≤ length bytes)
IsWithin other bytes = Unit {0}
