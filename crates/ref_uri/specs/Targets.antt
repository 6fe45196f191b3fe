-- What a text means, alone or against a base, and the parts of a reference to a schema.
use Rattle.std.specs.Prelude.{ℕ, ◌&&◌, List, [], ◌++◌, codes, None, is_some, Result, Ok, Err, nat_eq, ◌==◌, if◌then◌else◌, slice_index, drop}
use Rattle.std.specs.List.{ends_with, before_last, after_last, list_any}
use Rattle.ref_uri.specs.Components.{scheme}
use Rattle.ref_uri.specs.Reference.{is_uri_reference, with_fragment}
use Rattle.ref_uri.specs.Normal.{normal_form}
use Rattle.ref_uri.specs.Resolution.{target_text}
use Rattle.ref_uri.specs.Bytes.{hash}

-- why a text means no URI
pub data Refusal : Type 0 where
  -- the text is no URI reference
  parse_refusal : List ℕ → Refusal
  -- the text, and a base that has no scheme
  resolve_refusal : List ℕ → List ℕ → Refusal

-- what is displayed
abbrev pub refusal_text : Refusal → List ℕ
refusal_text (parse_refusal text) =
    codes "Invalid URI reference '" ++ text ++ codes "': not a URI reference of RFC 3986"
refusal_text (resolve_refusal text base) =
    codes "Failed to resolve '" ++ text ++ codes "' against '" ++ base
    ++ codes "': the base has no scheme"

-- the base of texts without a scheme
abbrev pub default_base : List ℕ
default_base = codes "json-schema:///"

-- the URI that a text means: its normal form, resolved against the default base where it has no scheme
unfoldable pub uri_of : List ℕ → Result (List ℕ) Refusal
uri_of text =
    if is_uri_reference text then
    (if is_some (scheme text) then Ok (normal_form text)
    else Ok (target_text default_base (normal_form text)))
    else Err (parse_refusal text)

-- The URI that a text means against a base. A base that ends in the fragment that the text is, is the answer itself; else the
-- base's fragment takes no part.
unfoldable pub uri_against : List ℕ → List ℕ → Result (List ℕ) Refusal
uri_against base text =
    if is_some (scheme base) then
    (if (slice_index text 0 == hash) && ends_with nat_eq base text then Ok base
    else (if is_uri_reference text then
    Ok (normal_form (target_text (with_fragment base None) text))
    else Err (parse_refusal text)))
    else Err (resolve_refusal text base)

-- the URI part of a reference that doesn't begin with `#`: what is before its last `#`
abbrev pub uri_part : List ℕ → List ℕ
uri_part reference =
    if list_any (λ c. c == hash) reference then before_last (λ c. c == hash) reference
    else reference

-- the fragment: what follows a `#` in front, or else the last `#`
abbrev pub fragment_part : List ℕ → List ℕ
fragment_part reference =
    if slice_index reference 0 == hash then drop 1 reference
    else (if list_any (λ c. c == hash) reference then after_last (λ c. c == hash) reference else [])

-- the URI that a reference points into: a reference that begins with `#` points into the base
abbrev pub target : List ℕ → List ℕ → Result (List ℕ) Refusal
target base reference =
    if slice_index reference 0 == hash then Ok base else uri_against base (uri_part reference)
