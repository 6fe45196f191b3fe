-- Resolution of a reference against a base (RFC 3986, 5.2, strict).
use Rattle.std.specs.Prelude.{ℕ, ◌-◌, not, ◌&&◌, List, ◌∷◌, ◌++◌, length, take, Bool, Option, Some, None, is_some, is_none, ◌==◌, if◌then◌else◌, slice_index}
use Rattle.std.specs.List.{suffix_len}
use Rattle.std.specs.Option.{option_or}
use Rattle.ref_uri.specs.Components.{Components, components, text_of}
use Rattle.ref_uri.specs.DotSegments.{remove_dot_segments}
use Rattle.ref_uri.specs.Normal.{guarded_path}
use Rattle.ref_uri.specs.Bytes.{slash}

-- up to and with the last slash, or nothing
abbrev pub through_last_slash : List ℕ → List ℕ
through_last_slash path = take (length path - suffix_len (λ c. not (c == slash)) path) path

-- a relative path after the base's (5.2.3)
abbrev pub merged_path : Components → List ℕ → List ℕ
merged_path base path =
    if is_some base.authority && (length base.path == 0) then slash ∷ path
    else through_last_slash base.path ++ path

-- the path of the target of a reference that has one (5.2.2)
abbrev pub target_path : Components → List ℕ → List ℕ
target_path base path =
    if slice_index path 0 == slash then remove_dot_segments path
    else remove_dot_segments (merged_path base path)

-- the reference's query, or the base's where it has none
abbrev pub query_or : Option (List ℕ) → Option (List ℕ) → Option (List ℕ)
query_or None of_base = of_base
query_or (Some query) of_base = Some query

-- The reference has neither scheme nor authority: the target has the base's.
abbrev pub has_base_authority : Components → Bool
has_base_authority reference = is_none reference.scheme && is_none reference.authority

-- It has no path either: the target has the base's path, and the base's query where the reference has none.
abbrev pub has_base_path : Components → Bool
has_base_path reference = has_base_authority reference && (length reference.path == 0)

-- the target, each component by its own cases (5.2.2)
abbrev pub target_components : Components → Components → Components
target_components base reference =
    record {
      scheme = option_or reference.scheme base.scheme;
      authority = if has_base_authority reference then base.authority else reference.authority;
      path =
          if has_base_path reference then base.path
          else (if has_base_authority reference then target_path base reference.path
          else remove_dot_segments reference.path);
      query =
          if has_base_path reference then query_or reference.query base.query else reference.query;
      fragment = reference.fragment;
    }

-- A target whose path would be taken for an authority has `/.` before it.
abbrev pub with_guard : Components → Components
with_guard c = record c { path = guarded_path c.authority c.path }

-- the target of a reference, guarded
abbrev pub resolved_components : Components → Components → Components
resolved_components base reference = with_guard (target_components base reference)

-- the text of the target
unfoldable pub target_text : List ℕ → List ℕ → List ℕ
target_text base reference = text_of (resolved_components (components base) (components reference))
