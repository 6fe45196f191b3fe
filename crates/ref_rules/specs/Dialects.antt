-- Which draft is meant by a `$schema` that is not its meta-schema's URI, letter by letter.
use Rattle.std.specs.Prelude.{ℕ, Bool, List, [], ◌++◌, ◌||◌, map, codes, if◌then◌else◌, bytes_eq, Option, Some, None}
use Rattle.std.specs.Char.{to_ascii_lowercase}
use Rattle.ref_draft.specs.declared.draft.Draft.{Draft}
use Rattle.ref_draft.specs.declared.draft.Draft.TheVariants.{Draft4, Draft6, Draft7, Draft201909, Draft202012, Unknown}
use Rattle.ref_draft.specs.Keywords.{is_unknown}
use Rattle.ref_draft.specs.Schema.{trimmed_text, from_schema_uri}

-- The URI of a draft's meta-schema (Draft 4 Core, 6; Draft 7 Core, 7; 2019-09 Core, 8.1.1; 2020-12 Core, 8.1.1). A custom one has none.
abbrev pub meta_schema : Draft → List ℕ
meta_schema Draft4 = codes "http://json-schema.org/draft-04/schema#"
meta_schema Draft6 = codes "http://json-schema.org/draft-06/schema#"
meta_schema Draft7 = codes "http://json-schema.org/draft-07/schema#"
meta_schema Draft201909 = codes "https://json-schema.org/draft/2019-09/schema"
meta_schema Draft202012 = codes "https://json-schema.org/draft/2020-12/schema"
meta_schema Unknown = []

-- a text in small letters and without the `#` characters at its end, which make no difference to which draft is meant
abbrev pub in_small : List ℕ → List ℕ
in_small text = map to_ascii_lowercase (trimmed_text text)

-- the draft that is meant, or else an unknown one
abbrev pub or_else : Draft → Draft → Draft
or_else first second = if is_unknown first then second else first

-- the URI without a version, which is that of the newest meta-schema, whichever this is: it is no slip for one draft's
abbrev pub has_no_version : List ℕ → Bool
has_no_version text =
    bytes_eq text (codes "http://json-schema.org/schema")
    || bytes_eq text (codes "https://json-schema.org/schema")

-- the draft whose meta-schema has this URI, by its version
abbrev pub by_version : List ℕ → Draft
by_version text = if has_no_version text then Unknown else from_schema_uri text

-- `http` and `https` are one, as are small letters and capitals, and `schema` may be missing at the end
abbrev pub meant : List ℕ → Draft
meant text =
    or_else (by_version (in_small text))
    (or_else (by_version (in_small text ++ codes "/schema"))
    (by_version (in_small text ++ codes "schema")))

-- whether a text is the URI of the meta-schema of a draft, which may be written without the `#` at its end, where it has one
abbrev pub is_meta_schema : List ℕ → Draft → Bool
is_meta_schema text draft =
    bytes_eq text (meta_schema draft) || bytes_eq text (trimmed_text (meta_schema draft))

-- The draft that is meant by a text that is not the URI of its meta-schema.
abbrev pub misspelled : List ℕ → Option Draft
misspelled text =
    if is_unknown (meant text) then None
    else (if is_meta_schema text (meant text) then None else Some (meant text))
