-- The normal form of a reference (RFC 3986, 6.2.2 and 3.2.3). Which of the standard's steps apply is this project's choice.
use Rattle.std.specs.Prelude.{ℕ, true, false, ◌+◌, ◌*◌, ◌-◌, ◌&&◌, List, [], ◌∷◌, ◌++◌, map, length, codes, Option, Some, None, option_map, is_none, ◌==◌, nat_lt, if◌then◌else◌}
use Rattle.std.specs.Char.{to_ascii_lowercase, to_ascii_uppercase}
use Rattle.ref_uri.specs.Characters.{is_unreserved}
use Rattle.ref_uri.specs.Authority.{userinfo, host, port_part}
use Rattle.ref_uri.specs.Components.{Components, components, text_of, framed_component, begins_with_slashes}
use Rattle.ref_uri.specs.DotSegments.{remove_dot_segments}
use Rattle.ref_uri.specs.Bytes.{percent}

-- the value of a hex digit
abbrev pub hex_value : ℕ → ℕ
hex_value c = if nat_lt c 58 then c - 48 else to_ascii_lowercase c - 87

-- A triple of an unreserved character is that character (6.2.2.2), another one has its digits in upper case (6.2.2.1).
abbrev pub normal_triple : (ℕ → ℕ) → ℕ → ℕ → List ℕ
normal_triple fold high low =
    if is_unreserved (16 * hex_value high + hex_value low) then
    fold (16 * hex_value high + hex_value low) ∷ []
    else percent ∷ to_ascii_uppercase high ∷ to_ascii_uppercase low ∷ []

-- An encoded text in normal form, where fold is what case a character gets: `%` and two digits are a normal triple.
unfoldable pub normal_encoded : (ℕ → ℕ) → List ℕ → List ℕ
normal_encoded fold [] = []
normal_encoded fold (c ∷ high ∷ low ∷ rest) =
    elim (c == percent) [
      | true ↦ normal_triple fold high low ++ normal_encoded fold rest
      | false ↦ fold c ∷ normal_encoded fold (high ∷ low ∷ rest)
    ]
normal_encoded fold (c ∷ rest) = fold c ∷ normal_encoded fold rest

-- characters stay as they are
abbrev pub normal_text : List ℕ → List ℕ
normal_text text = normal_encoded (λ c. c) text

-- a host is in lower case, one in brackets too (6.2.2.1)
abbrev pub normal_host : List ℕ → List ℕ
normal_host text = normal_encoded to_ascii_lowercase text

-- an empty port loses its `:` (3.2.3)
abbrev pub normal_port_part : List ℕ → List ℕ
normal_port_part part = if length part == 1 then [] else part

-- an authority in normal form: userinfo, host and port part each (3.2.3 and 6.2.2)
unfoldable pub normal_authority : List ℕ → List ℕ
normal_authority authority =
    framed_component [] (option_map normal_text (userinfo authority)) (codes "@")
    ++ normal_host (host authority)
    ++ normal_port_part (port_part authority)

-- `/.` is before a path that would be taken for an authority (6.2.2.3 leaves it open; 3.3)
abbrev pub guarded_path : Option (List ℕ) → List ℕ → List ℕ
guarded_path authority path =
    if is_none authority && begins_with_slashes path then codes "/." ++ path else path

-- with a scheme dot segments go too (6.2.2.3); without one they stay
abbrev pub normal_path : Option (List ℕ) → Option (List ℕ) → List ℕ → List ℕ
normal_path None authority path = normal_text path
normal_path (Some scheme) authority path =
    guarded_path authority (remove_dot_segments (normal_text path))

-- component by component
abbrev pub normal_components : Components → Components
normal_components c =
    record {
      scheme = option_map (map to_ascii_lowercase) c.scheme;
      authority = option_map normal_authority c.authority;
      path = normal_path c.scheme c.authority c.path;
      query = option_map normal_text c.query;
      fragment = option_map normal_text c.fragment;
    }

-- the normal form of a reference's text
unfoldable pub normal_form : List ℕ → List ℕ
normal_form text = text_of (normal_components (components text))
