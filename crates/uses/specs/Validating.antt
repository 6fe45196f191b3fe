-- Whether an instance meets a schema, by `$ref`, `type`, `properties` and `allOf` alone.
use Rattle.std.specs.Prelude.{ℕ, zero, suc, Bool, true, false, List, [], ◌∷◌, codes, bytes_eq, Option, Some, None, is_some, option_map, Result, Ok, Err, if◌then◌else◌}
use Rattle.std.specs.Option.{option_map_or}
use Rattle.serde_json.specs.Data.{Data}
use Rattle.serde_json.specs.Find.{get, as_null, as_bool, as_number, as_str, as_array, as_object}
use Rattle.referencing.specs.Path.{Part, Key, Index}
use Rattle.referencing.specs.Draft.{Draft}
use Rattle.referencing.specs.Schema.{text_under}
use Rattle.referencing.specs.Children.{Walked, walked_children}
use Rattle.referencing.specs.Results.{◌>>=◌}
use Rattle.referencing.specs.World.{World}
use Rattle.referencing.specs.Fault.{Fault, as_invalid_uri}
use Rattle.referencing.specs.Lookup.{Resolver, Found, lookup, in_subresource}
use Rattle.uses.specs.declared.validator.Verdict.{Verdict}
use Rattle.uses.specs.declared.validator.Verdict.TheVariants.{Valid, Invalid, TooDeep}

abbrev pub is_valid : Verdict → Bool
is_valid Valid = true
is_valid Invalid = false
is_valid TooDeep = false

-- where a schema's text under `$ref` leads from a resolver
abbrev pub referred_from : World → Resolver → Data → Option (Result Found Fault)
referred_from world r schema = option_map (lookup world r) (text_under (codes "$ref") schema)

-- whether a value has a type by its name (2020-12 Core, 4.2.1); `integer` and texts that name none aren't read
abbrev pub has_type : Data → List ℕ → Bool
has_type value name =
    if bytes_eq name (codes "null") then is_some (as_null value)
    else if bytes_eq name (codes "boolean") then is_some (as_bool value)
    else if bytes_eq name (codes "number") then is_some (as_number value)
    else if bytes_eq name (codes "string") then is_some (as_str value)
    else if bytes_eq name (codes "array") then is_some (as_array value)
    else if bytes_eq name (codes "object") then is_some (as_object value)
    else true

-- whether it has the type that a schema names, where it names one
abbrev pub is_of_type : Data → Data → Bool
is_of_type schema value = option_map_or (has_type value) (text_under (codes "type") schema) true

-- what of an instance a subschema at a path is asked of
abbrev pub part_for : List Part → Data → Option Data
part_for (Key keyword ∷ Key name ∷ []) instance =
    if bytes_eq keyword (codes "properties") then get name instance else None
part_for (Key keyword ∷ Index i ∷ []) instance =
    if bytes_eq keyword (codes "allOf") then Some instance else None
part_for path instance = None

-- the first answer, unless it is `Valid`: then the one after it
abbrev pub unless_valid : Result Verdict Fault → Result Verdict Fault → Result Verdict Fault
unless_valid (Ok verdict) more = if is_valid verdict then more else Ok verdict
unless_valid (Err fault) more = Err fault

-- a validator of a schema of a draft, from the resolver at the schema, and of an instance
abbrev pub Validator : Type 0
Validator = Resolver → Draft → Data → Data → Result Verdict Fault

-- after a reference, where there is one
abbrev pub after_reference : Validator → Data → Option (Result Found Fault) → Result Verdict Fault
after_reference next instance None = Ok Valid
after_reference next instance (Some meaning) =
    meaning >>= λ found. next found.resolver found.draft found.value instance

-- at a subschema, where it is asked of something
abbrev pub at_child : Validator → Resolver → Data → Walked → Result Verdict Fault
at_child next r instance child =
    option_map_or
    (λ part. as_invalid_uri (in_subresource r child.draft child.value)
    >>= λ inner. next inner child.draft child.value part)
    (part_for child.path instance) (Ok Valid)

-- at subschemas, one after another
unfoldable pub at_children : Validator → Resolver → Data → List Walked → Result Verdict Fault
at_children next r instance [] = Ok Valid
at_children next r instance (child ∷ children) =
    unless_valid (at_child next r instance child) (at_children next r instance children)

-- at most so many schemas that lead to one another: the type, then what the reference leads to, then the subschemas
unfoldable pub validated_within : World → ℕ → Validator
validated_within world zero r draft schema instance = Ok TooDeep
validated_within world (suc depth) r draft schema instance =
    if is_of_type schema instance
    then unless_valid
    (after_reference (validated_within world depth) instance (referred_from world r schema))
    (at_children (validated_within world depth) r instance (walked_children draft schema))
    else Ok Invalid
