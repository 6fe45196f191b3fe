-- Which version of the OpenAPI Specification a document follows (3.0 and 3.1, 4.1 "Versions" and "OpenAPI Object", field
-- `openapi`; 2.0, "Swagger Object", field `swagger`).
use Rattle.std.specs.Prelude.{ℕ, Bool, false, ◌||◌, nat_eq, List, ◌++◌, codes, bytes_eq, if◌then◌else◌, Option, Some, None, option_and_then}
use Rattle.std.specs.Option.{option_map_or}
use Rattle.std.specs.List.{starts_with}
use Rattle.serde_json.specs.Data.{Data}
use Rattle.ref_draft.specs.Schema.{text_under}
use Rattle.ref_descriptions.specs.declared.version.Version.{Version}
use Rattle.ref_descriptions.specs.declared.version.Version.TheVariants.{V2_0, V3_0, V3_1, V3_2}

-- the name of a version
abbrev pub version_name : Version → List ℕ
version_name V2_0 = codes "2.0"
version_name V3_0 = codes "3.0"
version_name V3_1 = codes "3.1"
version_name V3_2 = codes "3.2"

-- whether a text is a version's name, or begins with that and a dot
abbrev pub is_version : List ℕ → List ℕ → Bool
is_version name text =
    bytes_eq text name || starts_with nat_eq text (name ++ codes ".")

-- the version that a text under `openapi` names
abbrev pub openapi_version : List ℕ → Option Version
openapi_version text =
    if is_version (version_name V3_0) text then Some V3_0
    else (if is_version (version_name V3_1) text then Some V3_1
    else (if is_version (version_name V3_2) text then Some V3_2 else None))

-- whether a root has `"swagger": "2.0"`
abbrev pub is_swagger : Data → Bool
is_swagger root =
    option_map_or (λ text. bytes_eq text (version_name V2_0)) (text_under (codes "swagger") root) false

-- the version of the document with this root, where it is a description
abbrev pub version_of : Data → Option Version
version_of root =
    if is_swagger root then Some V2_0
    else option_and_then openapi_version (text_under (codes "openapi") root)
