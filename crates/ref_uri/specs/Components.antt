-- A reference as its five components, and the components of a text (RFC 3986, 3 and Appendix B).
use Rattle.std.specs.Prelude.{ℕ, ◌+◌, Bool, true, false, ◌||◌, ◌&&◌, not, List, [], ◌∷◌, ◌++◌, length, drop, codes, Option, Some, None, option_map, ◌==◌, nat_lt, if◌then◌else◌, slice_index}
use Rattle.std.specs.List.{list_any, list_all, before_first, position_or_len}
use Rattle.std.specs.Option.{option_map_or}
use Rattle.std.specs.Char.{is_ascii_alphabetic}
use Rattle.ref_uri.specs.Characters.{is_one_of, is_encoded, is_scheme_character, is_path_character, is_query_character}
use Rattle.ref_uri.specs.Authority.{is_authority}
use Rattle.ref_uri.specs.Bytes.{hash, slash, colon, question_mark}

-- `[scheme ":"] ["//" authority] path ["?" query] ["#" fragment]`: a component that is empty differs from one that is absent
pub record Components : Type 0 where
  pub scheme : Option (List ℕ)
  pub authority : Option (List ℕ)
  pub path : List ℕ
  pub query : Option (List ℕ)
  pub fragment : Option (List ℕ)

-- a component between two marks, or nothing where it is absent
abbrev pub framed_component : List ℕ → Option (List ℕ) → List ℕ → List ℕ
framed_component before None after = []
framed_component before (Some component) after = before ++ component ++ after

-- the text that components make (5.3)
abbrev pub text_of : Components → List ℕ
text_of c =
    framed_component [] c.scheme (codes ":") ++ framed_component (codes "//") c.authority []
    ++ c.path ++ framed_component (codes "?") c.query []
    ++ framed_component (codes "#") c.fragment []

-- what ends a scheme
abbrev pub ends_scheme : ℕ → Bool
ends_scheme c = is_one_of (codes ":/?#") c

-- what ends an authority
abbrev pub ends_authority : ℕ → Bool
ends_authority c = is_one_of (codes "/?#") c

-- what ends a path
abbrev pub ends_path : ℕ → Bool
ends_path c = is_one_of (codes "?#") c

-- `#`, which ends a query
abbrev pub ends_query : ℕ → Bool
ends_query c = c == hash

-- what is before the first of `:/?#`, where that is a `:` and something is before it
unfoldable pub scheme : List ℕ → Option (List ℕ)
scheme text =
    let name = before_first ends_scheme text in
    if nat_lt 0 (length name) && (slice_index text (length name) == colon) then Some name else None

-- what follows a component of this length and its marks, if it is there
abbrev pub text_after : Option ℕ → ℕ → List ℕ → List ℕ
text_after component marks text = option_map_or (λ len. drop (len + marks) text) component text

-- the text after the scheme and its `:`
unfoldable pub after_scheme : List ℕ → List ℕ
after_scheme text = text_after (option_map length (scheme text)) 1 text

-- two slashes, after which an authority is
abbrev pub begins_with_slashes : List ℕ → Bool
begins_with_slashes text = (slice_index text 0 == slash) && (slice_index text 1 == slash)

-- what is after `//`, up to the next of `/?#`
abbrev pub authority_in_front : List ℕ → Option (List ℕ)
authority_in_front text =
    if begins_with_slashes text then Some (before_first ends_authority (drop 2 text)) else None

-- the authority, where there is one (3.2)
unfoldable pub authority : List ℕ → Option (List ℕ)
authority text = authority_in_front (after_scheme text)

-- the text after the authority
unfoldable pub after_authority : List ℕ → List ℕ
after_authority text = text_after (option_map length (authority text)) 2 (after_scheme text)

-- up to the next of `?#`
unfoldable pub path : List ℕ → List ℕ
path text = before_first ends_path (after_authority text)

-- the text after the path
unfoldable pub after_path : List ℕ → List ℕ
after_path text = drop (position_or_len ends_path (after_authority text)) (after_authority text)

-- what is after `?`, up to `#`
abbrev pub query_in_front : List ℕ → Option (List ℕ)
query_in_front text =
    if slice_index text 0 == question_mark then Some (before_first ends_query (drop 1 text))
    else None

-- the query, where there is one (3.4)
unfoldable pub query : List ℕ → Option (List ℕ)
query text = query_in_front (after_path text)

-- the text after the query
unfoldable pub after_query : List ℕ → List ℕ
after_query text = text_after (option_map length (query text)) 1 (after_path text)

-- what is after `#`
abbrev pub fragment_in_front : List ℕ → Option (List ℕ)
fragment_in_front text = if slice_index text 0 == hash then Some (drop 1 text) else None

-- the fragment, where there is one (3.5)
unfoldable pub fragment : List ℕ → Option (List ℕ)
fragment text = fragment_in_front (after_query text)

-- the components of any text
abbrev pub components : List ℕ → Components
components text =
    record {
      scheme = scheme text;
      authority = authority text;
      path = path text;
      query = query text;
      fragment = fragment text;
    }

-- a letter, and then letters, digits and `+-.` (3.1)
abbrev pub is_scheme : List ℕ → Bool
is_scheme [] = false
is_scheme (first ∷ rest) = is_ascii_alphabetic first && list_all is_scheme_character rest

-- a path (3.3)
abbrev pub is_path : List ℕ → Bool
is_path text = is_encoded is_path_character text

-- a query or a fragment (3.4, 3.5)
abbrev pub is_query : List ℕ → Bool
is_query text = is_encoded is_query_character text

-- a component that is there is as it must be
abbrev pub if_there : (List ℕ → Bool) → Option (List ℕ) → Bool
if_there test component = option_map_or test component true

-- Which path may follow what (3.3): after an authority it is empty or begins with `/`; with no authority it doesn't begin
-- with `//`; with no scheme either, no `:` is in its first segment.
abbrev pub is_path_after : Option (List ℕ) → Option (List ℕ) → List ℕ → Bool
is_path_after scheme (Some authority) path = (length path == 0) || (slice_index path 0 == slash)
is_path_after (Some scheme) None path = not (begins_with_slashes path)
is_path_after None None path =
    not (begins_with_slashes path)
    && not (list_any (λ c. c == colon) (before_first (λ c. c == slash) path))

-- each component holds what it may (3)
unfoldable pub are_components : Components → Bool
are_components c =
    if_there is_scheme c.scheme && if_there is_authority c.authority && is_path c.path
    && if_there is_query c.query
    && if_there is_query c.fragment && is_path_after c.scheme c.authority c.path
