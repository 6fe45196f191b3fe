-- Keys on the way to a value, and which components a reference at a path needs.
use Rattle.std.specs.Prelude.{ℕ, ◌-◌, ◌==◌, ◌&&◌, ◌||◌, List, [], ◌∷◌, map, not, take, Bool, true, false, Option, Some, None, is_some, bytes_eq, codes, length, nat_lt, slice_get, string_bytes, if◌then◌else◌}
use Rattle.std.specs.List.{list_any}
use Rattle.std.specs.Option.{option_map_or}
use Rattle.serde_json.specs.Data.{Data}
use Rattle.serde_json.specs.Find.{as_bool, as_str}
use Rattle.ref_draft.specs.declared.draft.Draft.{Draft}
use Rattle.ref_draft.specs.declared.draft.Draft.TheVariants.{Draft201909}
use Rattle.ref_descriptions.specs.References.{has_dynamic}
use Rattle.ref_positions.specs.declared.format.Format.{Format}
use Rattle.ref_positions.specs.declared.format.Format.TheVariants.{Json, Yaml}
use Rattle.ref_positions.specs.Formats.{has_end}
use Rattle.ref_positions.specs.declared.part.Step.{Step}
use Rattle.ref_positions.specs.declared.part.Step.TheVariants.{Member, Item}
use Rattle.ref_files.specs.Plain.{folder_of, last_name}
use Rattle.ref_workspace.specs.Referring.{is_one_of, is_referring, is_data, has_names}

-- the key of a step to a member
abbrev pub key_of : Step → Option (List ℕ)
key_of (Member key) = Some (string_bytes key)
key_of (Item index) = None

abbrev pub key_in : Option Step → Option (List ℕ)
key_in (Some step) = key_of step
key_in None = None

-- the key of the step that so many others come after, where there is one and it is to a member
abbrev pub key_before : ℕ → List Step → Option (List ℕ)
key_before after path =
    if nat_lt after (length path) then key_in (slice_get path (length path - 1 - after)) else None

-- a key is there and is a name
abbrev pub is_key : List ℕ → Option (List ℕ) → Bool
is_key name key = option_map_or (λ own. bytes_eq own name) key false

-- a value is in the mapping of a discriminator (OpenAPI 3.1, 4.8.25)
abbrev pub is_mapped : List Step → Bool
is_mapped path =
    is_key (codes "discriminator") (key_before 2 path) && is_key (codes "mapping") (key_before 1 path)
    && is_some (key_before 0 path)

abbrev pub is_item : List Step → Bool
is_item (Item index ∷ steps) = true
is_item other = false

-- nothing on the way after a step refers to something, where its key is a keyword: its value is data, or a list of examples
abbrev pub is_passed : Step → List Step → Bool
is_passed step rest =
    option_map_or is_data (key_of step) false || (is_key (codes "examples") (key_of step) && is_item rest)

-- the keys after a step are names that somebody gave, where they are so before it or not
abbrev pub names_after : Bool → Step → Bool
names_after are_names step = not are_names && option_map_or has_names (key_of step) false

-- a text refers to something: it is under a keyword that refers, or in the mapping of a discriminator (OpenAPI 3.1, 4.8.25)
abbrev pub is_reference_after : Step → List Step → Bool
is_reference_after step [] = option_map_or is_referring (key_of step) false
is_reference_after step (next ∷ last ∷ []) =
    is_key (codes "discriminator") (key_of step) && is_key (codes "mapping") (key_of next)
    && is_some (key_of last)
is_reference_after step other = false

abbrev pub is_reference_from : Bool → List Step → Bool
is_reference_from are_names [] = false
is_reference_from are_names (step ∷ rest) =
    if not are_names && is_reference_after step rest then true
    else (if not are_names && is_passed step rest then false
    else is_reference_from (names_after are_names step) rest)

-- the text at a path refers to something, by the keys on the way: none of these is a name in place of a keyword, and none has data
abbrev pub is_reference : List Step → Bool
is_reference path = is_reference_from false path

-- whether a draft has a keyword that refers: `$dynamicRef` came with 2020-12 (Core, 8.2.3.2), and `$recursiveRef` is that of 2019-09 (Core, 8.2.4.2.1)
abbrev pub is_recursive : Draft → Bool
is_recursive Draft201909 = true
is_recursive other = false

abbrev pub has_keyword : Draft → List ℕ → Bool
has_keyword draft key =
    if bytes_eq key (codes "$dynamicRef") then has_dynamic draft
    else (if bytes_eq key (codes "$recursiveRef") then is_recursive draft else true)

-- the keywords whose text names the schema that has them (JSON Schema 2020-12, 8.2.1 and 8.2.2; Draft 4, 7.2)
abbrev pub names : List (List ℕ)
names = map codes ("$id" ∷ "id" ∷ "$anchor" ∷ "$dynamicAnchor" ∷ [])

-- a value under a key names the schema that has it: a text under one of these, or the flag of 2019-09 (8.2.4.2.2)
abbrev pub is_name : List ℕ → Data → Bool
is_name key value =
    if is_some (as_str value) then is_one_of names key
    else is_some (as_bool value) && bytes_eq key (codes "$recursiveAnchor")

-- the keywords under which there is a schema (JSON Schema 2020-12, 10.2 and 10.3; Draft 2019-09, 9.3.1)
abbrev pub schemas : List (List ℕ)
schemas =
    map codes
    ("additionalItems" ∷ "additionalProperties" ∷ "contains" ∷ "contentSchema" ∷ "else" ∷ "if" ∷ "items"
    ∷ "not" ∷ "propertyNames" ∷ "then" ∷ "unevaluatedItems" ∷ "unevaluatedProperties" ∷ [])

-- the keywords under which there are schemas, in an object or an array
abbrev pub sets : List (List ℕ)
sets =
    map codes
    ("$defs" ∷ "allOf" ∷ "anyOf" ∷ "definitions" ∷ "dependencies" ∷ "dependentSchemas" ∷ "items" ∷ "oneOf"
    ∷ "patternProperties" ∷ "prefixItems" ∷ "properties" ∷ [])

abbrev pub has_set : Option (List ℕ) → Bool
has_set key = option_map_or (is_one_of sets) key false

abbrev pub has_schema : Option (List ℕ) → Bool
has_schema key = option_map_or (is_one_of schemas) key false

-- `true` or `false` at a path is a schema: it is under one of the first, or in what is under one of the others
abbrev pub is_schema : List Step → Bool
is_schema path = has_set (key_before 1 path) || has_schema (key_before 0 path)

-- the groups of components that aren't schemas, and whose objects are in members of the same name (OpenAPI 3.1, 4.8.7)
abbrev pub groups : List (List ℕ)
groups =
    map codes
    ("callbacks" ∷ "examples" ∷ "headers" ∷ "links" ∷ "parameters" ∷ "requestBodies" ∷ "responses"
    ∷ "securitySchemes" ∷ [])

abbrev pub has_schemas : Step → Bool
has_schemas step =
    is_key (codes "schema") (key_of step) || is_key (codes "schemas") (key_of step)

-- a path is in a schema of a description: it goes on after `schema` or `schemas`, or after the `definitions` of Swagger 2.0
abbrev pub is_in_schema : List Step → Bool
is_in_schema path =
    list_any has_schemas (take (length path - 1) path)
    || (nat_lt 1 (length path) && is_key (codes "definitions") (key_in (slice_get path 0)))

-- the members whose values are path items (4.8.8; in components 4.8.7)
abbrev pub path_items : List (List ℕ)
path_items = map codes ("paths" ∷ "webhooks" ∷ "pathItems" ∷ [])

-- the object that has the last key of a path is a path item: it is in one of these members, or in a callback under its expression (4.8.18)
abbrev pub is_path_item : List Step → Bool
is_path_item path =
    option_map_or (is_one_of path_items) (key_before 2 path) false
    || is_key (codes "callbacks") (key_before 3 path)

abbrev pub group_named : Option (List ℕ) → List ℕ
group_named (Some name) = if is_one_of groups name then name else codes "schemas"
group_named None = codes "schemas"

-- the group of the components that the reference at a path needs: nothing where it needs an operation
abbrev pub needed : List Step → Option (List ℕ)
needed path =
    if is_key (codes "operationRef") (key_before 0 path) then None
    else (if is_in_schema path then Some (codes "schemas")
    else (if is_key (codes "requestBody") (key_before 1 path) then Some (codes "requestBodies")
    else (if is_path_item path then Some (codes "pathItems")
    else Some (group_named (key_before 2 path)))))

-- the members that have definitions, which are schemas (JSON Schema 2020-12, 8.2.4; Draft 4 Validation, 5.5.7)
abbrev pub definitions : List (List ℕ)
definitions = map codes ("$defs" ∷ "definitions" ∷ [])

-- the name of the object that a component is in
abbrev pub group_of : List ℕ → List ℕ
group_of component = last_name (folder_of component)

-- a component may be what the reference at a path needs: it is a definition, or in the group that is needed
abbrev pub is_of_kind : List Step → List ℕ → Bool
is_of_kind path component =
    is_one_of definitions (group_of component) || is_key (group_of component) (needed path)

-- what is needed between a text and a scalar that comes in place of a token after it: a blank after a colon of YAML (YAML 1.2.2, 7.4.2)
abbrev pub lead_of : Format → List ℕ → List ℕ → List ℕ
lead_of Json before token = []
lead_of Yaml before token =
    if length token == 0 && has_end (codes ":") before then codes " " else []
