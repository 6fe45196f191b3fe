-- The components of what is written, which are parts of other texts.
use Rattle.std.specs.Prelude.{◌≡◌, ◌≢◌, ℕ, true, ⊤, ◌||◌, List, ◌∷◌, ◌++◌, length, map, codes, Option, Some, None, is_some, option_map, option_copied, ◌==◌, if◌then◌else◌, slice_index}
use Rattle.ref_uri.specs.declared.lengths.Lengths.{Lengths}
use Rattle.ref_uri.specs.declared.lengths.Parts.{Parts}
use Rattle.ref_uri.specs.declared.target.PathOf.{PathOf}
use Rattle.ref_uri.specs.declared.target.PathOf.TheVariants.{Kept, OfBase, Removed, Merged}
use Rattle.ref_uri.specs.declared.target.Target.{Target}
use Rattle.ref_uri.specs.declared.written.Form.{Form}
use Rattle.ref_uri.specs.declared.written.Form.TheVariants.{Given, Normal, NormalTarget}
use Rattle.ref_uri.specs.Authority.{is_authority}
use Rattle.ref_uri.specs.Components.{Components, if_there, is_scheme, is_path, is_query}
use Rattle.ref_uri.specs.DotSegments.{remove_dot_segments}
use Rattle.ref_uri.specs.inner.Lengths.{the_lengths}
use Rattle.std.specs.Char.{to_ascii_lowercase}
use Rattle.std.specs.Str.{IsAscii}
use Rattle.ref_uri.specs.Normal.{guarded_path, normal_text, normal_authority}
use Rattle.ref_uri.specs.Resolution.{merged_path, target_components}
use Rattle.ref_uri.specs.inner.Written.{is_plain, the_front, the_rest, written_text, written_scheme, written_authority}
use Rattle.ref_uri.specs.Bytes.{slash}

-- a path as it is given
abbrev pub given_path : PathOf → List ℕ
given_path (Kept path) = path.now
given_path (OfBase path) = path.now
given_path (Removed path) = remove_dot_segments path.now
given_path (Merged directory path) = remove_dot_segments (directory.now ++ slash ∷ path.now)

-- a path in normal form
abbrev pub normal_path_of : PathOf → List ℕ
normal_path_of (Kept path) = normal_text path.now
normal_path_of (OfBase path) = remove_dot_segments (normal_text path.now)
normal_path_of (Removed path) = remove_dot_segments (normal_text path.now)
normal_path_of (Merged directory path) =
    remove_dot_segments (normal_text (directory.now ++ slash ∷ path.now))

-- A path as it is written: a target's loses its dot segments as it is given, and then those that it has in normal form.
abbrev pub written_path : Form → PathOf → List ℕ
written_path Given path = given_path path
written_path Normal path = normal_path_of path
written_path NormalTarget path = remove_dot_segments (normal_text (given_path path))

-- the components as they are written: scheme and authority in one form, what follows in another
abbrev pub written_by : Form → Form → Target → Components
written_by front form target =
    record {
      scheme = option_map (written_scheme front) (option_copied target.scheme);
      authority = option_map (written_authority front) (option_copied target.authority);
      path = guarded_path (option_copied target.authority) (written_path form target.path);
      query = option_map (written_text form) (option_copied target.query);
      fragment = option_map (written_text form) (option_copied target.fragment);
    }

-- the components as they are written in one form
abbrev pub written_components : Form → Target → Components
written_components form target = written_by form form target

-- their lengths
abbrev pub lengths_of_components : Components → Lengths
lengths_of_components c =
    the_lengths (option_map length c.scheme) (option_map length c.authority) (length c.path)
    (option_map length c.query)

-- the path's parts are paths
abbrev pub AreParts : PathOf → Type 0
AreParts (Kept path) = is_path path.now ≡ true
AreParts (OfBase path) = is_path path.now ≡ true
AreParts (Removed path) = is_path path.now ≡ true
AreParts (Merged directory path) = (is_path directory.now ≡ true) × (is_path path.now ≡ true)

-- no triple of `.` is in the text (2.1)
abbrev pub LacksEncodedDot : List ℕ → Type 0
LacksEncodedDot text =
    (before after : List ℕ)
    → (text ≢ before ++ (codes "%2e" ++ after)) × (text ≢ before ++ (codes "%2E" ++ after))

-- The path in normal form is the same, be its dot segments removed before triples are decoded and after, or after alone.
abbrev pub LosesSameDots : PathOf → Type 0
LosesSameDots (Kept path) = ⊥
LosesSameDots (OfBase path) = ⊤
LosesSameDots (Removed path) = LacksEncodedDot path.now
LosesSameDots (Merged directory path) = LacksEncodedDot directory.now × LacksEncodedDot path.now

-- No `%` is in the path's parts, and its dot segments are to go in normal form.
abbrev pub ArePlain : PathOf → Type 0
ArePlain (Kept path) = ⊥
ArePlain (OfBase path) = is_plain path.now ≡ true
ArePlain (Removed path) = is_plain path.now ≡ true
ArePlain (Merged directory path) = (is_plain directory.now ≡ true) × (is_plain path.now ≡ true)

-- no `%` is in what follows scheme and authority
pub record IsPlainTarget (target : Target) : Type 0 where
  pub path : ArePlain target.path
  pub query : if_there is_plain (option_copied target.query) ≡ true
  pub fragment : if_there is_plain (option_copied target.fragment) ≡ true

-- the same of components
pub record LacksTriples (c : Components) : Type 0 where
  pub path : is_plain c.path ≡ true
  pub query : if_there is_plain c.query ≡ true
  pub fragment : if_there is_plain c.fragment ≡ true

-- each part holds what it may
pub record IsTarget (target : Target) : Type 0 where
  pub scheme_test : if_there is_scheme (option_copied target.scheme) ≡ true
  pub authority_test : if_there is_authority (option_copied target.authority) ≡ true
  pub path_test : AreParts target.path
  pub query_test : if_there is_query (option_copied target.query) ≡ true
  pub fragment_test : if_there is_query (option_copied target.fragment) ≡ true
  pub front_test : (front : List ℕ) → option_copied target.front ≡ Some front
      → (front ≡ the_front (option_copied target.scheme) (option_copied target.authority))
      × IsAscii front
  pub rest_test : (rest : List ℕ) → option_copied target.rest ≡ Some rest
      → rest ≡ the_rest (option_copied target.query) (option_copied target.fragment)

-- what is around the path
pub record AreFramed (parts : Parts) : Type 0 where
  pub front : parts.front.now
      ≡ the_front (option_copied parts.scheme) (option_copied parts.authority)
  pub ascii : IsAscii parts.front.now
  pub rest : parts.rest.now ≡ the_rest (option_copied parts.query) (option_copied parts.fragment)

-- the components that are in a text
abbrev pub components_of : Parts → Components
components_of parts =
    record {
      scheme = option_copied parts.scheme;
      authority = option_copied parts.authority;
      path = parts.path.now;
      query = option_copied parts.query;
      fragment = option_copied parts.fragment;
    }

-- a path, or a directory, a slash and the path
abbrev pub after_directory : Option (List ℕ) → List ℕ → List ℕ
after_directory None path = path
after_directory (Some directory) path = directory ++ slash ∷ path

-- a path after the base's, unless it begins with `/` (5.2.2)
abbrev pub path_past : Components → List ℕ → List ℕ
path_past base path = if slice_index path 0 == slash then path else merged_path base path

-- a target's path with its dot segments: the reference's, the base's where there is none, or one after the other (5.2.2)
abbrev pub path_with_dots : Components → Components → List ℕ
path_with_dots base reference =
    if is_some reference.scheme || is_some reference.authority then reference.path
    else (if length reference.path == 0 then base.path else path_past base reference.path)

-- the target before the removal of its path's dot segments
unfoldable pub target_with_dots : Components → Components → Components
target_with_dots base reference =
    record (target_components base reference) { path = path_with_dots base reference }

-- each component in normal form, and with a scheme no dot segments to remove
pub record IsSettled (c : Components) : Type 0 where
  pub scheme : option_map (map to_ascii_lowercase) c.scheme ≡ c.scheme
  pub authority : option_map normal_authority c.authority ≡ c.authority
  pub removed : is_some c.scheme ≡ true → remove_dot_segments c.path ≡ c.path
  pub path : normal_text c.path ≡ c.path
  pub query : option_map normal_text c.query ≡ c.query
  pub fragment : option_map normal_text c.fragment ≡ c.fragment
