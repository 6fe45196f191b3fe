-- The tables of the drafts: under which keywords a schema is, which keywords a draft knows, and the name of its
-- identifier. Every other definition reads these. Draft 4: Validation, section 5; Drafts 6 and 7: Validation,
-- section 6; 2019-09: Core, section 9; 2020-12: Core, section 10.
use Rattle.std.specs.Prelude.{ℕ, List, [], ◌∷◌, map, Bool, true, false, ◌&&◌, ◌||◌, codes, if◌then◌else◌}
use Rattle.std.specs.List.{list_any}
use Rattle.std.specs.Str.{bytes_eq}
use Rattle.ref_draft.specs.declared.draft.Draft.{Draft}
use Rattle.ref_draft.specs.declared.draft.Draft.TheVariants.{Draft4, Draft6, Draft7, Draft201909, Draft202012, Unknown}
use Rattle.ref_draft.specs.declared.spec.Holding.{Holding}
use Rattle.ref_draft.specs.declared.spec.Holding.TheVariants.{Whole, WholeObject, Elements, Members, ElementsOrWhole, ObjectMembers, Nothing}

-- whether a keyword is one of a list
abbrev pub is_one_of : List ℕ → List (List ℕ) → Bool
is_one_of keyword keywords = list_any (λ k. bytes_eq keyword k) keywords

-- A row: the keywords whose value is a schema, those whose arrays have schemas as elements, and those whose objects
-- have schemas as members
pub record Row : Type 0 where
  pub values : List (List ℕ)
  pub arrays : List (List ℕ)
  pub maps : List (List ℕ)

-- Draft 4
abbrev pub row_4 : Row
row_4 = record {
  values =
      map codes
      ("additionalItems" ∷ "additionalProperties" ∷ "contains" ∷ "contentSchema" ∷ "else" ∷ "if"
      ∷ "not" ∷ "propertyNames" ∷ "then" ∷ "unevaluatedItems" ∷ "unevaluatedProperties"
      ∷ []);
  arrays = map codes ("allOf" ∷ "anyOf" ∷ "oneOf" ∷ "prefixItems" ∷ []);
  maps =
      map codes
      ("$defs" ∷ "definitions" ∷ "dependentSchemas" ∷ "patternProperties" ∷ "properties" ∷ []);
}

-- Draft 6
abbrev pub row_6 : Row
row_6 = record {
  values =
      map codes
      ("additionalItems" ∷ "additionalProperties" ∷ "contains" ∷ "not" ∷ "propertyNames" ∷ []);
  arrays = map codes ("allOf" ∷ "anyOf" ∷ "oneOf" ∷ []);
  maps = map codes ("definitions" ∷ "patternProperties" ∷ "properties" ∷ []);
}

-- Draft 7
abbrev pub row_7 : Row
row_7 = record {
  values =
      map codes
      ("additionalItems" ∷ "additionalProperties" ∷ "contains" ∷ "else" ∷ "if" ∷ "not"
      ∷ "propertyNames" ∷ "then" ∷ []);
  arrays = map codes ("allOf" ∷ "anyOf" ∷ "oneOf" ∷ []);
  maps = map codes ("definitions" ∷ "patternProperties" ∷ "properties" ∷ []);
}

-- 2019-09
abbrev pub row_2019 : Row
row_2019 = record {
  values =
      map codes
      ("additionalItems" ∷ "additionalProperties" ∷ "contains" ∷ "contentSchema" ∷ "else" ∷ "if"
      ∷ "not" ∷ "propertyNames" ∷ "then" ∷ "unevaluatedItems" ∷ "unevaluatedProperties"
      ∷ []);
  arrays = map codes ("allOf" ∷ "anyOf" ∷ "oneOf" ∷ []);
  maps =
      map codes
      ("$defs" ∷ "definitions" ∷ "dependentSchemas" ∷ "patternProperties" ∷ "properties" ∷ []);
}

-- 2020-12
abbrev pub row_2020 : Row
row_2020 = record {
  values =
      map codes
      ("additionalProperties" ∷ "contains" ∷ "contentSchema" ∷ "else" ∷ "if" ∷ "items" ∷ "not"
      ∷ "propertyNames" ∷ "then" ∷ "unevaluatedItems" ∷ "unevaluatedProperties" ∷ []);
  arrays = map codes ("allOf" ∷ "anyOf" ∷ "oneOf" ∷ "prefixItems" ∷ []);
  maps =
      map codes
      ("$defs" ∷ "definitions" ∷ "dependentSchemas" ∷ "patternProperties" ∷ "properties" ∷ []);
}

-- The row of each draft. A custom meta-schema has that of 2020-12.
abbrev pub row : Draft → Row
row Draft4 = row_4
row Draft6 = row_6
row Draft7 = row_7
row Draft201909 = row_2019
row _ = row_2020

-- Drafts 4 to 2019-09, where `items` and `dependencies` hold schemas in more than one way
abbrev pub is_before_2020 : Draft → Bool
is_before_2020 Draft202012 = false
is_before_2020 Unknown = false
is_before_2020 _ = true

-- `items` or `dependencies`
abbrev pub is_items_or_dependencies : List ℕ → Bool
is_items_or_dependencies keyword = is_one_of keyword (codes "items" ∷ codes "dependencies" ∷ [])

-- the value keywords that may have a boolean in place of a schema (Draft 4 Validation, 5.3.1 and 5.4.4): in later
-- drafts a boolean is a schema
abbrev pub boolean_or_schema : Draft → List (List ℕ)
boolean_or_schema Draft4 = map codes ("additionalItems" ∷ "additionalProperties" ∷ [])
boolean_or_schema _ = []

-- How a keyword of a draft holds its subschemas. Before 2020-12 `items` is an array of schemas or one schema, and the
-- members of `dependencies` are schemas where they are objects.
abbrev pub holding_of : Draft → List ℕ → Holding
holding_of d keyword =
    if is_one_of keyword (boolean_or_schema d) then WholeObject
    else (if is_one_of keyword (row d).values then Whole
    else (if is_one_of keyword (row d).arrays then Elements
    else (if is_one_of keyword (row d).maps then Members
    else (if is_before_2020 d && bytes_eq keyword (codes "items") then ElementsOrWhole
    else (if is_before_2020 d && bytes_eq keyword (codes "dependencies") then ObjectMembers
    else Nothing)))))

-- whether the members of a keyword's object are schemas
abbrev pub is_map_keyword : Draft → List ℕ → Bool
is_map_keyword d keyword =
    is_one_of keyword (row d).maps || is_before_2020 d && bytes_eq keyword (codes "dependencies")

-- What `subresources_of` leaves out: in 2019-09 what is under `dependencies`
abbrev pub is_left_out : Draft → List ℕ → Bool
is_left_out Draft201909 keyword = bytes_eq keyword (codes "dependencies")
is_left_out _ keyword = false

-- The name of the identifier (Draft 4 Core, 7.2; Draft 6 Core, 9.2)
abbrev pub id_keyword : Draft → List ℕ
id_keyword Draft4 = codes "id"
id_keyword _ = codes "$id"

-- Drafts 4, 6 and 7: a `$ref` hides the identifier beside it, and one that begins with `#` is an anchor
abbrev pub is_before_2019 : Draft → Bool
is_before_2019 Draft4 = true
is_before_2019 Draft6 = true
is_before_2019 Draft7 = true
is_before_2019 _ = false

-- whether a draft is that of a custom meta-schema
abbrev pub is_unknown : Draft → Bool
is_unknown Unknown = true
is_unknown _ = false

-- ---- the keywords that a draft knows

-- keywords of every draft
abbrev pub known_in_all : List (List ℕ)
known_in_all =
    map codes
    ("$ref" ∷ "$schema" ∷ "additionalItems" ∷ "additionalProperties" ∷ "allOf" ∷ "anyOf"
    ∷ "definitions" ∷ "dependencies" ∷ "enum" ∷ "exclusiveMaximum" ∷ "exclusiveMinimum"
    ∷ "format" ∷ "items" ∷ "maxItems" ∷ "maxLength" ∷ "maxProperties" ∷ "maximum"
    ∷ "minItems" ∷ "minLength" ∷ "minProperties" ∷ "minimum" ∷ "multipleOf" ∷ "not"
    ∷ "oneOf" ∷ "pattern" ∷ "patternProperties" ∷ "properties" ∷ "required" ∷ "type"
    ∷ "uniqueItems" ∷ [])

-- of Draft 4 alone
abbrev pub known_in_4 : List (List ℕ)
known_in_4 = codes "id" ∷ []

-- since Draft 6
abbrev pub known_since_6 : List (List ℕ)
known_since_6 =
    map codes
    ("$id" ∷ "const" ∷ "contains" ∷ "propertyNames" ∷ "contentEncoding" ∷ "contentMediaType"
    ∷ [])

-- since Draft 7
abbrev pub known_since_7 : List (List ℕ)
known_since_7 = map codes ("else" ∷ "if" ∷ "then" ∷ [])

-- since 2019-09
abbrev pub known_since_2019 : List (List ℕ)
known_since_2019 =
    map codes
    ("contentSchema" ∷ "$anchor" ∷ "$defs" ∷ "$recursiveAnchor" ∷ "$recursiveRef"
    ∷ "dependentRequired" ∷ "dependentSchemas" ∷ "maxContains" ∷ "minContains"
    ∷ "unevaluatedItems" ∷ "unevaluatedProperties" ∷ [])

-- whether 2019-09 knows a keyword
abbrev pub is_known_in_2019 : List ℕ → Bool
is_known_in_2019 k =
    is_one_of k known_in_all || is_one_of k known_since_6 || is_one_of k known_since_7
    || is_one_of k known_since_2019

-- since 2020-12
abbrev pub known_since_2020 : List (List ℕ)
known_since_2020 = map codes ("$dynamicAnchor" ∷ "$dynamicRef" ∷ "prefixItems" ∷ [])

-- The keywords that a draft knows. A custom meta-schema's are those of 2020-12.
abbrev pub is_known : Draft → List ℕ → Bool
is_known Draft4 k = is_one_of k known_in_all || is_one_of k known_in_4
is_known Draft6 k = is_one_of k known_in_all || is_one_of k known_since_6
is_known Draft7 k =
    is_one_of k known_in_all || is_one_of k known_since_6 || is_one_of k known_since_7
is_known Draft201909 k = is_known_in_2019 k
is_known _ k = is_known_in_2019 k || is_one_of k known_since_2020
