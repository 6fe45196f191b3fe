-- The tables: under which fields of an object which objects are, by version. The name of a kind is that of an object of the
-- specification: 2.0, "Schema", from "Swagger Object" on; 3.0, 3.1 and 3.2, "Schema", from "OpenAPI Object" on.
use Prim.Native.String.{String as Literal}
use Rattle.std.specs.Prelude.{ℕ, Bool, true, false, not, ◌&&◌, ◌||◌, ◌==◌, List, [], ◌∷◌, ◌++◌, codes, bytes_eq, take, if◌then◌else◌, Option, Some, None, option_map}
use Rattle.std.specs.List.{find}
use Rattle.std.specs.Char.{is_ascii_digit}
use Rattle.std.specs.Int.{is_in_range}
use Rattle.ref_descriptions.specs.declared.version.Version.{Version}
use Rattle.ref_descriptions.specs.declared.version.Version.TheVariants.{V2_0, V3_0, V3_1, V3_2}
use Rattle.ref_descriptions.specs.declared.kind.Kind.{Kind}
use Rattle.ref_descriptions.specs.declared.kind.Kind.TheVariants.{Root, Components, Paths, PathItem, Operation, Responses, Response, Parameter, Header, RequestBody, MediaType, Encoding, Example, Link, Callback, SecurityScheme, Schema}
use Rattle.ref_descriptions.specs.declared.fields.Holding.{Holding}
use Rattle.ref_descriptions.specs.declared.fields.Holding.TheVariants.{One, Each, Members, OneOrEach}

-- what a kind is called
abbrev pub kind_name : Kind → List ℕ
kind_name Root = codes "description"
kind_name Components = codes "components object"
kind_name Paths = codes "paths object"
kind_name PathItem = codes "path item"
kind_name Operation = codes "operation"
kind_name Responses = codes "responses object"
kind_name Response = codes "response"
kind_name Parameter = codes "parameter"
kind_name Header = codes "header"
kind_name RequestBody = codes "request body"
kind_name MediaType = codes "media type"
kind_name Encoding = codes "encoding"
kind_name Example = codes "example"
kind_name Link = codes "link"
kind_name Callback = codes "callback"
kind_name SecurityScheme = codes "security scheme"
kind_name Schema = codes "schema"

-- a field: its name, how it holds objects, and of which kind these are
pub record Field : Type 0 where
  pub name : List ℕ
  pub holding : Holding
  pub kind : Kind

-- a field whose value is an object; whose list has objects; whose map has them; whose value is one, or a list of them
abbrev pub one : Literal → Kind → Field
one name kind = record { name = codes name; holding = One; kind = kind }

abbrev pub list : Literal → Kind → Field
list name kind = record { name = codes name; holding = Each; kind = kind }

abbrev pub map_of : Literal → Kind → Field
map_of name kind = record { name = codes name; holding = Members; kind = kind }

abbrev pub one_or_list : Literal → Kind → Field
one_or_list name kind = record { name = codes name; holding = OneOrEach; kind = kind }

-- 2.0. A Schema Object has those fields of JSON Schema that the specification lists
abbrev pub fields_2_0 : Kind → List Field
fields_2_0 Root =
    one "paths" Paths ∷ map_of "definitions" Schema ∷ map_of "parameters" Parameter
    ∷ map_of "responses" Response ∷ []
fields_2_0 PathItem =
    one "get" Operation ∷ one "put" Operation ∷ one "post" Operation ∷ one "delete" Operation
    ∷ one "options" Operation ∷ one "head" Operation ∷ one "patch" Operation
    ∷ list "parameters" Parameter ∷ []
fields_2_0 Operation = list "parameters" Parameter ∷ one "responses" Responses ∷ []
fields_2_0 Response = one "schema" Schema ∷ []
fields_2_0 Parameter = one "schema" Schema ∷ []
fields_2_0 Schema =
    map_of "properties" Schema ∷ one_or_list "items" Schema ∷ one "additionalProperties" Schema
    ∷ list "allOf" Schema ∷ []
fields_2_0 other = []

-- 3.0
abbrev pub fields_3_0 : Kind → List Field
fields_3_0 Root = one "paths" Paths ∷ one "components" Components ∷ []
fields_3_0 Components =
    map_of "schemas" Schema ∷ map_of "responses" Response ∷ map_of "parameters" Parameter
    ∷ map_of "examples" Example ∷ map_of "requestBodies" RequestBody ∷ map_of "headers" Header
    ∷ map_of "securitySchemes" SecurityScheme ∷ map_of "links" Link
    ∷ map_of "callbacks" Callback ∷ []
fields_3_0 PathItem =
    one "get" Operation ∷ one "put" Operation ∷ one "post" Operation ∷ one "delete" Operation
    ∷ one "options" Operation ∷ one "head" Operation ∷ one "patch" Operation
    ∷ one "trace" Operation ∷ list "parameters" Parameter ∷ []
fields_3_0 Operation =
    list "parameters" Parameter ∷ one "requestBody" RequestBody ∷ one "responses" Responses
    ∷ map_of "callbacks" Callback ∷ []
fields_3_0 RequestBody = map_of "content" MediaType ∷ []
fields_3_0 MediaType =
    one "schema" Schema ∷ map_of "examples" Example ∷ map_of "encoding" Encoding ∷ []
fields_3_0 Encoding = map_of "headers" Header ∷ []
fields_3_0 Response =
    map_of "headers" Header ∷ map_of "content" MediaType ∷ map_of "links" Link ∷ []
fields_3_0 Parameter =
    one "schema" Schema ∷ map_of "examples" Example ∷ map_of "content" MediaType ∷ []
fields_3_0 Header =
    one "schema" Schema ∷ map_of "examples" Example ∷ map_of "content" MediaType ∷ []
fields_3_0 Schema =
    map_of "properties" Schema ∷ one "items" Schema ∷ one "additionalProperties" Schema
    ∷ list "allOf" Schema ∷ list "anyOf" Schema ∷ list "oneOf" Schema ∷ one "not" Schema ∷ []
fields_3_0 other = []

-- what 3.1 has beside that
abbrev pub since_3_1 : Kind → List Field
since_3_1 Root = map_of "webhooks" PathItem ∷ []
since_3_1 Components = map_of "pathItems" PathItem ∷ []
since_3_1 other = []

-- what 3.2 has beside that
abbrev pub since_3_2 : Kind → List Field
since_3_2 Components = map_of "mediaTypes" MediaType ∷ []
since_3_2 PathItem = one "query" Operation ∷ map_of "additionalOperations" Operation ∷ []
since_3_2 MediaType =
    one "itemSchema" Schema ∷ list "prefixEncoding" Encoding ∷ one "itemEncoding" Encoding ∷ []
since_3_2 Encoding =
    map_of "encoding" Encoding ∷ list "prefixEncoding" Encoding ∷ one "itemEncoding" Encoding
    ∷ []
since_3_2 other = []

-- the fields of a version. From 3.1 on what is below a schema is said by the drafts of JSON Schema, and not here
abbrev pub fields : Version → Kind → List Field
fields V2_0 kind = fields_2_0 kind
fields V3_0 kind = fields_3_0 kind
fields V3_1 kind = since_3_1 kind ++ fields_3_0 kind
fields V3_2 kind = since_3_2 kind ++ (since_3_1 kind ++ fields_3_0 kind)

-- ---- objects whose fields have names of their own

-- whether a name begins with a character
abbrev pub begins_with : ℕ → List ℕ → Bool
begins_with first [] = false
begins_with first (c ∷ name) = c == first

-- whether a name is a status code, or a range of them, as `404` and `4XX`
abbrev pub is_code : List ℕ → Bool
is_code (a ∷ b ∷ c ∷ []) =
    is_in_range 49 53 a && (is_ascii_digit b && is_ascii_digit c || b == 88 && c == 88)
is_code other = false

-- whether a name is that of a response
abbrev pub is_status : List ℕ → Bool
is_status name = bytes_eq name (codes "default") || is_code name

-- whether a name is that of an extension
abbrev pub is_extension : List ℕ → Bool
is_extension name = bytes_eq (take 2 name) (codes "x-")

-- what is under a name: of the Paths Object a path item where it begins with `/`, of a Responses Object a response, of a
-- Callback Object a path item but for extensions, and else what the table says
abbrev pub field_under : Version → Kind → List ℕ → Option (Holding × Kind)
field_under version Paths name = if begins_with 47 name then Some (One, PathItem) else None
field_under version Responses name = if is_status name then Some (One, Response) else None
field_under version Callback name =
    if is_extension name then None else Some (One, PathItem)
field_under version kind name =
    option_map (λ f. (f.holding, f.kind)) (find (λ f. bytes_eq name f.name) (fields version kind))
