-- Which file a URI means below a folder: what follows a prefix in it, and the names that this has.
use Rattle.std.specs.Prelude.{ℕ, ◌-◌, ◌==◌, Bool, ◌||◌, if◌then◌else◌, List, [], ◌∷◌, ◌++◌, take, length, map, All, IsUtf8, Option, None, Some, option_and_then}
use Rattle.std.specs.List.{list_any, slice_split, suffix_len}
use Rattle.percent_encoding.specs.Percent.{percent_decode}
use Rattle.ref_files.specs.Plain.{slash, IsPlain}
use Rattle.ref_files.specs.Uris.{path_text}

-- a text without the slashes at its end
abbrev pub without_slashes : List ℕ → List ℕ
without_slashes text = take (length text - suffix_len (λ b. b == slash) text) text

-- what follows a beginning of a text
abbrev pub after : List ℕ → List ℕ → Option (List ℕ)
after [] text = Some text
after (b ∷ front) [] = None
after (b ∷ front) (c ∷ text) = if c == b then after front text else None

-- `?`, which begins a query, and `#`, which begins a fragment (RFC 3986, 3)
abbrev pub ends_path : ℕ → Bool
ends_path b = b == 63 || b == 35

-- a text that is a path alone, without a query and a fragment
abbrev pub path_alone : List ℕ → Option (List ℕ)
path_alone text = if list_any ends_path text then None else Some text

-- the path that a URI has below a prefix: what follows the prefix and one slash
abbrev pub path_after : List ℕ → List ℕ → Option (List ℕ)
path_after prefix uri =
    option_and_then path_alone (after (without_slashes prefix ++ slash ∷ []) uri)

-- the URI of what a path means below a base: one slash between them
abbrev pub uri_after : List ℕ → List ℕ → List ℕ
uri_after base path = without_slashes base ++ slash ∷ path_text path

-- the segments of a path (RFC 3986, 3.3), each with its triples decoded (2.1)
abbrev pub decoded_segments : List ℕ → List (List ℕ)
decoded_segments path = map percent_decode (slice_split (λ b. b == slash) path)

-- the name of a file or a folder, as text
pub record IsName (name : List ℕ) : Type 0 where
  pub utf8 : IsUtf8 name
  pub plain : IsPlain name

-- each of these texts is a name
abbrev pub AreNames : List (List ℕ) → Type 0
AreNames names = All IsName names
