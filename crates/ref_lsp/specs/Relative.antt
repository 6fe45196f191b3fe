-- A URI as a reference relative to a base (RFC 3986, 4.2 and 5.2).
use Rattle.std.specs.Prelude.{ℕ, zero, suc, ◌+◌, ◌==◌, ◌||◌, Bool, true, false, List, [], ◌∷◌, ◌++◌, take, drop, count_by, codes, nat_eq, nat_lt, not, if◌then◌else◌}
use Rattle.std.specs.List.{before_first, starts_with}

-- a base as far as references are relative to it: without its query
abbrev pub without_query : List ℕ → List ℕ
without_query base = before_first (λ b. b == 63) base

abbrev pub with_byte : Bool → ℕ → ℕ
with_byte is_slash n = if is_slash || nat_lt 0 n then n + 1 else 0

-- how many bytes the folders have that two URIs are both in: up to the last slash before which they are the same
abbrev pub shared : List ℕ → List ℕ → ℕ
shared [] uri = 0
shared (b ∷ base) [] = 0
shared (b ∷ base) (c ∷ uri) = if b == c then with_byte (b == 47) (shared base uri) else 0

abbrev pub slashes : List ℕ → ℕ
slashes text = count_by (λ b. b == 47) text

-- a colon comes before a slash and a question mark
abbrev pub has_colon : List ℕ → Bool
has_colon [] = false
has_colon (b ∷ rest) = if b == 58 then true else (if b == 47 || b == 63 then false else has_colon rest)

-- a reference that means another URI than a path from the same folder: one that is empty, begins with a slash or a question mark, or has a colon
-- in its first segment
abbrev pub is_misread : List ℕ → Bool
is_misread [] = true
is_misread (b ∷ rest) = b == 47 || b == 63 || has_colon (b ∷ rest)

-- so many steps up
abbrev pub ups : ℕ → List ℕ
ups zero = []
ups (suc n) = codes "../" ++ ups n

-- a path after so many steps up
abbrev pub after_ups : ℕ → List ℕ → List ℕ
after_ups n path =
    if n == 0 then (if is_misread path then codes "./" ++ path else path) else ups n ++ path

abbrev pub relative_by : ℕ → List ℕ → List ℕ → List ℕ
relative_by start base uri =
    if nat_lt (slashes (take start base)) 3 then uri
    else after_ups (slashes (drop start base)) (drop start uri)

-- a URI from a base: by as many steps up as are needed, where both have their scheme and host in common, and else as it is
abbrev pub relative : List ℕ → List ℕ → List ℕ
relative base uri = relative_by (shared (without_query base) uri) (without_query base) uri

-- a reference to a file is by its path: one by the URI of the file would mean it on this machine alone
abbrev pub is_near : List ℕ → Bool
is_near reference = not (starts_with nat_eq reference (codes "file:"))
