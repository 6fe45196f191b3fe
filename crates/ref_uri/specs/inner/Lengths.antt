-- How long the components of a text are.
use Rattle.std.specs.Prelude.{◌≡◌, ℕ, true, List, length, Option, option_map, is_some}
use Rattle.std.specs.Str.{IsAscii}
use Rattle.ref_uri.specs.declared.lengths.Lengths.{Lengths}
use Rattle.ref_uri.specs.Components.{scheme, authority, path, query}
use Rattle.ref_uri.specs.Reference.{is_uri_reference}

-- lengths of components
abbrev pub the_lengths : Option ℕ → Option ℕ → ℕ → Option ℕ → Lengths
the_lengths scheme authority path query =
    record { scheme = scheme; authority = authority; path = path; query = query }

-- the lengths of the components of a text
abbrev pub lengths_of : List ℕ → Lengths
lengths_of text =
    the_lengths (option_map length (scheme text)) (option_map length (authority text))
    (length (path text)) (option_map length (query text))

-- the text is a URI reference, which is ASCII, and its components are so long
pub record IsParsed (text : List ℕ) (lengths : Lengths) : Type 0 where
  pub ascii : IsAscii text
  pub reference : is_uri_reference text ≡ true
  pub lengths_are : lengths ≡ lengths_of text

-- the text is a URI with a scheme, and its components are so long
abbrev pub IsParsedUri : List ℕ → Lengths → Type 0
IsParsedUri text lengths = IsParsed text lengths × (is_some (scheme text) ≡ true)
