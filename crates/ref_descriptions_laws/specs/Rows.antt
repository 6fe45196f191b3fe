-- Literal values for rows that compute.
use Prim.Native.String.{String as Literal}
use Rattle.std.specs.Prelude.{List, [], ◌∷◌, map, flat_map, filter, codes, Option, Some, None}
use Rattle.std.specs.Option.{option_map_or}
use Rattle.serde_json.specs.Data.{Data}
use Rattle.ref_paths.specs.Path.{Part}
use Rattle.ref_draft.specs.declared.draft.Draft.{Draft}
use Rattle.ref_draft.specs.declared.draft.Draft.TheVariants.{Draft202012}
use Rattle.ref_draft.specs.Rows.{text, one, key}
use Rattle.ref_descriptions.specs.declared.version.Version.{Version}
use Rattle.ref_descriptions.specs.declared.version.Version.TheVariants.{V3_1}
use Rattle.ref_descriptions.specs.declared.kind.Kind.{Kind}
use Rattle.ref_descriptions.specs.declared.kind.Kind.TheVariants.{Root, Components, Paths, PathItem, Operation, Responses, Response, Parameter, Header, RequestBody, MediaType, Encoding, Example, Link, Callback, SecurityScheme, Schema}
use Rattle.ref_descriptions.specs.declared.fields.Holding.{Holding}
use Rattle.ref_descriptions.specs.declared.reading.Reading.{Reading}
use Rattle.ref_descriptions.specs.Fields.{field_under}
use Rattle.ref_descriptions.specs.Readings.{is_referable, reading_of_root, reading_below}
use Rattle.ref_descriptions.specs.Below.{Inner, below}
use Rattle.ref_descriptions.specs.References.{Reference}

-- what is under these names
abbrev pub under : Version → Kind → List Literal → List (Option (Holding × Kind))
under version kind names = map (λ name. field_under version kind (codes name)) names

-- the names of all fields that hold objects in any version, and of some that hold none, in byte order
abbrev pub names : List Literal
names =
    "additionalOperations" ∷ "additionalProperties" ∷ "allOf" ∷ "anyOf" ∷ "callbacks"
    ∷ "components" ∷ "content" ∷ "default" ∷ "definitions" ∷ "delete" ∷ "encoding" ∷ "enum"
    ∷ "example" ∷ "examples" ∷ "get" ∷ "head" ∷ "headers" ∷ "itemEncoding" ∷ "itemSchema"
    ∷ "items" ∷ "links" ∷ "mediaTypes" ∷ "not" ∷ "oneOf" ∷ "options" ∷ "parameters" ∷ "patch"
    ∷ "pathItems" ∷ "paths" ∷ "post" ∷ "prefixEncoding" ∷ "properties" ∷ "put" ∷ "query"
    ∷ "requestBodies" ∷ "requestBody" ∷ "responses" ∷ "schema" ∷ "schemas" ∷ "security"
    ∷ "securitySchemes" ∷ "servers" ∷ "tags" ∷ "trace" ∷ "webhooks" ∷ "x-a" ∷ []

-- a name with how it holds objects and of which kind, where it does
abbrev pub named_field : Version → Kind → Literal → List (Literal × Holding × Kind)
named_field version kind name =
    option_map_or (λ field. (name, field.0, field.1) ∷ [])
    (field_under version kind (codes name)) []

-- those of all names that are fields of a kind, and of each of some kinds
abbrev pub table : Version → Kind → List (Literal × Holding × Kind)
table version kind = flat_map (named_field version kind) names

abbrev pub tables : Version → List Kind → List (List (Literal × Holding × Kind))
tables version kinds = map (table version) kinds

-- the kinds whose fields are those of 3.0 in 3.1, and those of 3.1 in 3.2. What is below a schema is said by its draft there
abbrev pub kept_in_3_1 : List Kind
kept_in_3_1 =
    PathItem ∷ Operation ∷ Response ∷ Parameter ∷ Header ∷ RequestBody ∷ MediaType ∷ Encoding
    ∷ Example ∷ Link ∷ SecurityScheme ∷ []

abbrev pub kept_in_3_2 : List Kind
kept_in_3_2 =
    Root ∷ Operation ∷ Response ∷ Parameter ∷ Header ∷ RequestBody ∷ Example ∷ Link
    ∷ SecurityScheme ∷ []

-- all kinds
abbrev pub kinds : List Kind
kinds =
    Root ∷ Components ∷ Paths ∷ PathItem ∷ Operation ∷ Responses ∷ Response ∷ Parameter ∷ Header
    ∷ RequestBody ∷ MediaType ∷ Encoding ∷ Example ∷ Link ∷ Callback ∷ SecurityScheme ∷ Schema
    ∷ []

-- those in whose place a Reference Object may stand
abbrev pub referable : Version → List Kind
referable version = filter (is_referable version) kinds

-- as an object of a kind, where schemas that name no draft are of 2020-12
abbrev pub read_as : Version → Kind → Reading
read_as version kind = record { version = Some version; kind = kind; draft = Draft202012 }

-- as a schema of 3.1 under a draft
abbrev pub read_by : Draft → Reading
read_by draft = record { version = Some V3_1; kind = Schema; draft = draft }

-- as a schema of 3.1 that names no draft, in a description with this root
abbrev pub read_in : Data → Data → Reading
read_in root value = reading_below (reading_of_root V3_1 root) Schema value

-- the paths and kinds of what is below a value, and the drafts
abbrev pub paths_below : Reading → Data → List (List Part × Kind)
paths_below r value = map (λ i. (i.path, i.reading.kind)) (below r value)

abbrev pub drafts_below : Reading → Data → List Draft
drafts_below r value = map (λ i. i.reading.draft) (below r value)

-- an object that is below another
abbrev pub inner : List Part → Data → Reading → Inner
inner path value r = record { path = path; value = value; reading = r }

-- the reference under a key of the object itself: with this text, and with none
abbrev pub refers : Literal → Literal → Kind → Reference
refers keyword reference kind =
    record { within = []; keyword = codes keyword; text = Some (codes reference); wanted = kind }

abbrev pub refers_by_no_text : Literal → Kind → Reference
refers_by_no_text keyword kind =
    record { within = []; keyword = codes keyword; text = None; wanted = kind }

-- that of a member of the mapping of a discriminator
abbrev pub maps : Literal → Literal → Reference
maps name reference =
    record {
      within = key "discriminator" ∷ key "mapping" ∷ [];
      keyword = codes name;
      text = Some (codes reference);
      wanted = Schema;
    }

-- an object with a text under `$ref`
abbrev pub referring : Data
referring = one "$ref" (text "#/x")
