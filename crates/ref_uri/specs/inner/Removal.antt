-- How a path is written without its dot segments, one segment after another (RFC 3986, 5.2.4).
use Rattle.std.specs.Prelude.{◌≡◌, ◌≢◌, ◌<◌, ◌-◌, ◌+◌, false, slice_index, ℕ, List, [], ◌∷◌, ◌++◌, codes, ◌==◌, if◌then◌else◌}
use Rattle.std.specs.List.{before_last, AllByRecursion}
use Rattle.ref_uri.specs.DotSegments.{is_dot, is_dot_dot, is_dot_segment}
use Rattle.ref_uri.specs.declared.dots.Progress.{Progress}
use Rattle.ref_uri.specs.declared.dots.Progress.TheVariants.{Front, Within, Dots}
use Rattle.ref_uri.specs.declared.dots.Segment.{Segment}
use Rattle.ref_uri.specs.declared.dots.Segment.TheVariants.{Name, Dot, DotDot}
use Rattle.ref_uri.specs.Bytes.{slash, dot, percent}

-- what a segment asks of a path
abbrev pub segment_of : List ℕ → Segment
segment_of text = if is_dot text then Dot else (if is_dot_dot text then DotDot else Name)

-- a path after a segment that no other precedes
abbrev pub first_written : Segment → List ℕ → List ℕ → List ℕ
first_written Name path segment = path ++ segment
first_written Dot path segment = path
first_written DotDot path segment = path

-- a path after one more segment
abbrev pub next_written : Segment → List ℕ → List ℕ → List ℕ
next_written Name path segment = path ++ slash ∷ segment
next_written Dot path segment = path
next_written DotDot path segment = before_last (λ c. c == slash) path

-- how far a path is after its first segment
abbrev pub first_progress : Segment → Progress
first_progress Name = Within
first_progress Dot = Front
first_progress DotDot = Front

-- how far it is after another
abbrev pub next_progress : Segment → Progress
next_progress Name = Within
next_progress Dot = Dots
next_progress DotDot = Dots

-- what is between the path and one more segment
abbrev pub slash_of : Progress → List ℕ
slash_of Front = []
slash_of Within = codes "/"
slash_of Dots = codes "/"

-- the path after one more segment
abbrev pub path_then : Progress → List ℕ → List ℕ → List ℕ
path_then Front path segment = first_written (segment_of segment) path segment
path_then Within path segment = next_written (segment_of segment) path segment
path_then Dots path segment = next_written (segment_of segment) path segment

-- how far it is then
abbrev pub progress_then : Progress → List ℕ → Progress
progress_then Front segment = first_progress (segment_of segment)
progress_then Within segment = next_progress (segment_of segment)
progress_then Dots segment = next_progress (segment_of segment)

-- a path after more segments
abbrev pub path_after : Progress → List ℕ → List (List ℕ) → List ℕ
path_after progress path [] = path
path_after progress path (segment ∷ rest) =
    path_after (progress_then progress segment) (path_then progress path segment) rest

-- how far it is after more segments
abbrev pub progress_after : Progress → List (List ℕ) → Progress
progress_after progress [] = progress
progress_after progress (segment ∷ rest) = progress_after (progress_then progress segment) rest

-- a path whose last segment is a dot segment ends in a slash
abbrev pub end_of : Progress → List ℕ
end_of Front = []
end_of Within = []
end_of Dots = codes "/"

-- a path after its last segments
abbrev pub ended_path : Progress → List ℕ → List (List ℕ) → List ℕ
ended_path progress path segments =
    path_after progress path segments ++ end_of (progress_after progress segments)

-- how far a path is after a dot segment
abbrev pub dots_after : Progress → Progress
dots_after Front = Front
dots_after Within = Dots
dots_after Dots = Dots

-- a path after `..`
abbrev pub last_taken : Progress → List ℕ → List ℕ
last_taken Front path = path
last_taken Within path = before_last (λ c. c == slash) path
last_taken Dots path = before_last (λ c. c == slash) path

-- none of the segments is a dot segment
abbrev pub AreNames : List (List ℕ) → Type 0
AreNames segments = AllByRecursion (λ segment. is_dot_segment segment ≡ false) segments

-- if a dot is at this place, no segment begins there
abbrev pub IsInside : List ℕ → ℕ → Type 0
IsInside path at = slice_index path at ≡ dot → (0 < at) × (slice_index path (at - 1) ≢ slash)

-- no triple of `.` begins at this place
abbrev pub IsNoEncodedDot : List ℕ → ℕ → Type 0
IsNoEncodedDot text at =
    slice_index text at ≡ percent → slice_index text (at + 1) ≡ 50
    → (slice_index text (at + 2) ≢ 101) × (slice_index text (at + 2) ≢ 69)
