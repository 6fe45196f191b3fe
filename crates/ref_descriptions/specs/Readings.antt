-- How values are read, and where a Reference Object may stand in place of an object.
use Rattle.std.specs.Prelude.{ℕ, Bool, true, false, not, ◌&&◌, List, codes, is_some, if◌then◌else◌, Option, Some, None}
use Rattle.std.specs.Option.{option_map_or}
use Rattle.serde_json.specs.Data.{Data}
use Rattle.ref_draft.specs.declared.draft.Draft.{Draft}
use Rattle.ref_draft.specs.declared.draft.Draft.TheVariants.{Draft202012}
use Rattle.ref_draft.specs.Schema.{text_under, from_schema_uri, detect}
use Rattle.ref_descriptions.specs.declared.version.Version.{Version}
use Rattle.ref_descriptions.specs.declared.version.Version.TheVariants.{V2_0, V3_0, V3_1, V3_2}
use Rattle.ref_descriptions.specs.declared.kind.Kind.{Kind}
use Rattle.ref_descriptions.specs.declared.kind.Kind.TheVariants.{Root, Components, Paths, PathItem, Operation, Responses, Response, Parameter, Header, RequestBody, MediaType, Encoding, Example, Link, Callback, SecurityScheme, Schema}
use Rattle.ref_descriptions.specs.declared.reading.Reading.{Reading}

-- whether the schemas of a version are those of JSON Schema (3.1 and 3.2, "Schema Object"), as those in no description are
abbrev pub has_drafts : Option Version → Bool
has_drafts (Some V2_0) = false
has_drafts (Some V3_0) = false
has_drafts other = true

-- whether a kind is that of schemas
abbrev pub is_schema : Kind → Bool
is_schema Schema = true
is_schema other = false

-- whether what is read so is a schema of a draft of JSON Schema
abbrev pub is_schema_of_a_draft : Reading → Bool
is_schema_of_a_draft r = is_schema r.kind && has_drafts r.version

-- the draft that what is read so has below: a schema of a draft may name its own (2020-12 Core, 8.1.1)
abbrev pub draft_below : Reading → Data → Draft
draft_below r value = if is_schema_of_a_draft r then detect r.draft value else r.draft

-- the reading of a value of a kind below an object that is read so
abbrev pub reading_below : Reading → Kind → Data → Reading
reading_below r kind value =
    record r { kind = kind; draft = draft_below (record r { kind = kind }) value }

-- the draft of the schemas of a description that name none: that of its `jsonSchemaDialect`, or 2020-12 (3.1, "Schema
-- Object"). The dialects of OpenAPI are custom ones, which have the keywords of 2020-12
abbrev pub dialect : Data → Draft
dialect root =
    option_map_or from_schema_uri (text_under (codes "jsonSchemaDialect") root) Draft202012

-- the reading of the root of a description
abbrev pub reading_of_root : Version → Data → Reading
reading_of_root version root =
    record { version = Some version; kind = Root; draft = dialect root }

-- the kinds in whose place a Reference Object may stand, by version ("Reference Object", and the types of the fields)
abbrev pub is_referable : Version → Kind → Bool
is_referable version Parameter = true
is_referable version Response = true
is_referable V2_0 Schema = true
is_referable V3_0 Schema = true
is_referable V3_2 MediaType = true
is_referable V2_0 other = false
is_referable version Callback = true
is_referable version Example = true
is_referable version Header = true
is_referable version Link = true
is_referable version RequestBody = true
is_referable version SecurityScheme = true
is_referable version other = false

-- whether one may stand in place of what is read so
abbrev pub may_be_reference : Reading → Bool
may_be_reference r = option_map_or (λ version. is_referable version r.kind) r.version false

-- whether a value is one: it has a text under `$ref`
abbrev pub is_reference : Reading → Data → Bool
is_reference r value = may_be_reference r && is_some (text_under (codes "$ref") value)
