-- Which texts are URI references, and which are URIs with a scheme (RFC 3986, 4.1 and 3).
use Rattle.std.specs.Prelude.{ℕ, Bool, ◌&&◌, List, Option, is_some, ◌≡◌, true}
use Rattle.ref_uri.specs.Components.{Components, components, are_components, text_of, scheme, fragment}

-- the components of the text are as they must be
unfoldable pub is_uri_reference : List ℕ → Bool
is_uri_reference text = are_components (components text)

-- a reference with a scheme
abbrev pub is_uri : List ℕ → Bool
is_uri text = is_uri_reference text && is_some (scheme text)

-- the text of components that are as they must be
abbrev pub IsTextOfComponents : List ℕ → Type 0
IsTextOfComponents text = (c : Components) × (are_components c ≡ true) × (text ≡ text_of c)

-- the text with this component put in, or dropped
abbrev pub with_fragment : List ℕ → Option (List ℕ) → List ℕ
with_fragment text fragment = text_of (record (components text) { fragment = fragment })
