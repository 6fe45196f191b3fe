-- The paths of files in URIs (RFC 8089, 2; RFC 3986, 3.3).
use Rattle.std.specs.Prelude.{ℕ, ◌==◌, Bool, not, ◌&&◌, ◌||◌, if◌then◌else◌, List, [], ◌∷◌, flat_map, codes}
use Rattle.std.specs.Char.{is_ascii, is_ascii_alphanumeric}
use Rattle.std.specs.List.{list_any}
use Rattle.percent_encoding.specs.Percent.{percent_encode_byte}

-- what a path of a URI has as it is: letters and digits, the other unreserved characters, sub-delims, `:`, `@` and the
-- slash (3.3)
abbrev pub is_kept : ℕ → Bool
is_kept b =
    is_ascii b && (is_ascii_alphanumeric b || list_any (λ c. c == b) (codes "-._~!$&'()*+,;=:@/"))

-- `:`
abbrev pub colon : ℕ
colon = 58

-- in the first segment of a relative path there is no colon (4.2)
abbrev pub is_kept_first : ℕ → Bool
is_kept_first b = is_kept b && not (b == colon)

-- a path as a URI has it: each other byte as a triple (2.1)
abbrev pub path_text : List ℕ → List ℕ
path_text path = flat_map (λ b. if is_kept b then b ∷ [] else percent_encode_byte b) path

-- a relative path as a relative URI: every colon as a triple too
abbrev pub relative_text : List ℕ → List ℕ
relative_text path = flat_map (λ b. if is_kept_first b then b ∷ [] else percent_encode_byte b) path
