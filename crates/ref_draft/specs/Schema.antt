-- Which draft a schema is read by, and its identifier (2020-12 Core, 8.1.1 and 8.2.1; Draft 7 Core, 7 and 8.2).
use Rattle.std.specs.Prelude.{ℕ, ◌-◌, List, [], ◌∷◌, ◌++◌, length, take, Bool, false, ◌&&◌, ◌||◌, ◌==◌, codes, if◌then◌else◌, Option, Some, None, is_some, option_and_then}
use Rattle.std.specs.List.{find, suffix_len}
use Rattle.std.specs.Option.{option_map_or}
use Rattle.std.specs.Str.{bytes_eq}
use Rattle.serde_json.specs.Data.{Data}
use Rattle.serde_json.specs.Find.{get, as_str, as_bool}
use Rattle.ref_draft.specs.declared.draft.Draft.{Draft}
use Rattle.ref_draft.specs.declared.draft.Draft.TheVariants.{Draft4, Draft6, Draft7, Draft201909, Draft202012, Unknown}
use Rattle.ref_draft.specs.Keywords.{id_keyword, is_before_2019}

-- the text under a key of an object, where there is one
abbrev pub text_under : List ℕ → Data → Option (List ℕ)
text_under key d = option_and_then as_str (get key d)

-- whether a value is `true`
abbrev pub is_true : Data → Bool
is_true value = option_map_or (λ b. b) (as_bool value) false

-- `#`, before a fragment
abbrev pub hash : ℕ
hash = 35

-- a text without the run of `#` characters at its end
abbrev pub trimmed_text : List ℕ → List ℕ
trimmed_text text = take (length text - suffix_len (λ c. c == hash) text) text

-- what follows `http` or `https` in the URI of each meta-schema; the one without a version is that of 2020-12
abbrev pub meta_schemas : List (List ℕ × Draft)
meta_schemas =
    (codes "://json-schema.org/draft/2020-12/schema", Draft202012)
    ∷ (codes "://json-schema.org/draft/2019-09/schema", Draft201909)
    ∷ (codes "://json-schema.org/draft-07/schema", Draft7)
    ∷ (codes "://json-schema.org/draft-06/schema", Draft6)
    ∷ (codes "://json-schema.org/draft-04/schema", Draft4)
    ∷ (codes "://json-schema.org/schema", Draft202012)
    ∷ []

-- whether a text is such a URI, with either scheme
abbrev pub is_at : List ℕ → List ℕ → Bool
is_at rest uri = bytes_eq uri (codes "http" ++ rest) || bytes_eq uri (codes "https" ++ rest)

-- the draft whose meta-schema has a URI
abbrev pub draft_of_uri : List ℕ → Draft
draft_of_uri uri = option_map_or (λ e. e.1) (find (λ e. is_at e.0 uri) meta_schemas) Unknown

-- the draft of the text under `$schema`: `#` characters at its end don't matter
abbrev pub from_schema_uri : List ℕ → Draft
from_schema_uri text = draft_of_uri (trimmed_text text)

-- the draft of a value in a schema of draft d: that of its text under `$schema`, or d without one
abbrev pub detect : Draft → Data → Draft
detect d value = option_map_or from_schema_uri (text_under (codes "$schema") value) d

-- whether a text begins with `#`
abbrev pub begins_with_hash : List ℕ → Bool
begins_with_hash [] = false
begins_with_hash (c ∷ text) = c == hash

-- whether a value's identifier doesn't count: before 2019-09 beside a `$ref` of any kind, or where it begins with `#`
abbrev pub is_hidden : Draft → Data → List ℕ → Bool
is_hidden d value text =
    is_before_2019 d && (is_some (get (codes "$ref") value) || begins_with_hash text)

-- the identifier of a value, without the `#` characters at its end
abbrev pub identifier : Draft → Data → Option (List ℕ)
identifier d value =
    option_and_then (λ text. if is_hidden d value text then None else Some (trimmed_text text))
    (text_under (id_keyword d) value)
