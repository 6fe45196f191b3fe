-- The removal of dot segments (RFC 3986, 5.2.4), given by the segments of a path.
use Rattle.std.specs.Prelude.{ℕ, Bool, false, ◌||◌, ◌&&◌, List, [], ◌∷◌, ◌++◌, codes, reverse, drop, length, bytes_eq, ◌==◌, if◌then◌else◌}
use Rattle.std.specs.List.{slice_split, prefix_len}
use Rattle.ref_uri.specs.Bytes.{slash}

-- what is between the slashes: a path that begins with `/` has an empty first segment
abbrev pub segments : List ℕ → List (List ℕ)
segments path = slice_split (λ c. c == slash) path

-- segments, each after a slash
abbrev pub after_slashes : List (List ℕ) → List ℕ
after_slashes [] = []
after_slashes (segment ∷ rest) = slash ∷ (segment ++ after_slashes rest)

-- segments with a slash between
abbrev pub joined_segments : List (List ℕ) → List ℕ
joined_segments [] = []
joined_segments (first ∷ rest) = first ++ after_slashes rest

-- the segment `.`
abbrev pub is_dot : List ℕ → Bool
is_dot segment = bytes_eq segment (codes ".")

-- the segment `..`
abbrev pub is_dot_dot : List ℕ → Bool
is_dot_dot segment = bytes_eq segment (codes "..")

-- whether a segment is `.` or `..` (3.3)
abbrev pub is_dot_segment : List ℕ → Bool
is_dot_segment segment = is_dot segment || is_dot_dot segment

-- The kept segments, the last of them first, after one more: `.` goes, and `..` takes away the nearest to its left.
abbrev pub kept_after : List (List ℕ) → List ℕ → List (List ℕ)
kept_after kept segment =
    if is_dot segment then kept else (if is_dot_dot segment then drop 1 kept else segment ∷ kept)

-- The first segment after one more. It is what is before the first `/`: a `..` that finds nothing kept takes it away, and
-- what is left is the root, so that `b/../c` becomes `/c`.
abbrev pub first_after : List ℕ → List (List ℕ) → List ℕ → List ℕ
first_after first kept segment = if is_dot_dot segment && (length kept == 0) then [] else first

-- what remains of the segments, from the left
abbrev pub remaining_segments : List ℕ → List (List ℕ) → List (List ℕ) → List (List ℕ)
remaining_segments first kept [] = first ∷ reverse kept
remaining_segments first kept (segment ∷ rest) =
    remaining_segments (first_after first kept segment) (kept_after kept segment) rest

-- the last segment is a dot segment: then the path ends in `/`
abbrev pub ends_in_dots : List (List ℕ) → Bool
ends_in_dots [] = false
ends_in_dots (last ∷ []) = is_dot_segment last
ends_in_dots (segment ∷ next ∷ rest) = ends_in_dots (next ∷ rest)

-- of segments of which the first is no dot segment
abbrev pub without_dots : List (List ℕ) → List (List ℕ)
without_dots [] = []
without_dots (first ∷ rest) =
    remaining_segments first [] rest ++ (if ends_in_dots rest then [] ∷ [] else [])

-- Dot segments before a path without leading `/` go; then each of the others, from the left.
unfoldable pub remove_dot_segments : List ℕ → List ℕ
remove_dot_segments path =
    joined_segments
    (without_dots (drop (prefix_len is_dot_segment (segments path)) (segments path)))
