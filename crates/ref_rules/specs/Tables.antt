-- Which keywords a draft doesn't have, and which count for nothing beside a `$ref`.
use Rattle.std.specs.Prelude.{ℕ, List, [], ◌∷◌, map, codes, Bool, not, ◌&&◌, filter}
use Rattle.ref_draft.specs.declared.draft.Draft.{Draft}
use Rattle.ref_draft.specs.declared.draft.Draft.TheVariants.{Draft4, Draft6, Draft7, Draft202012, Unknown}
use Rattle.ref_draft.specs.Keywords.{is_one_of, is_known}

-- ---- keywords of other drafts

-- keywords that came after Draft 4, and those that went away since, but for containers of definitions: a pointer leads into these
-- whatever they are called
abbrev pub dated : List (List ℕ)
dated =
    map codes
    ("$anchor" ∷ "$dynamicAnchor" ∷ "$dynamicRef" ∷ "$id" ∷ "$recursiveAnchor"
    ∷ "$recursiveRef" ∷ "const" ∷ "contains" ∷ "contentSchema" ∷ "dependentRequired"
    ∷ "dependentSchemas" ∷ "else" ∷ "id" ∷ "if" ∷ "maxContains" ∷ "minContains" ∷ "prefixItems"
    ∷ "propertyNames" ∷ "then" ∷ "unevaluatedItems" ∷ "unevaluatedProperties" ∷ [])

-- of them, those that 2020-12 took away (2020-12 Core, appendix G)
abbrev pub recursive : List (List ℕ)
recursive = map codes ("$recursiveAnchor" ∷ "$recursiveRef" ∷ [])

-- whether a draft has a keyword: 2020-12 knows those that it took away, so that they aren't read as others
abbrev pub has : Draft → List ℕ → Bool
has Draft202012 k = is_known Draft202012 k && not (is_one_of k recursive)
has d k = is_known d k

-- The keywords that a draft doesn't have, and another one has. A custom meta-schema may have any.
abbrev pub of_others : Draft → List (List ℕ)
of_others Unknown = []
of_others d = filter (λ k. not (has d k)) dated

-- ---- beside a `$ref`

-- keywords of Draft 4 that decide whether a value is valid (Draft 4 Validation, section 5; Draft 7 Validation, section 6)
abbrev pub deciding : List (List ℕ)
deciding =
    map codes
    ("additionalItems" ∷ "additionalProperties" ∷ "allOf" ∷ "anyOf" ∷ "const" ∷ "contains"
    ∷ "dependencies" ∷ "else" ∷ "enum" ∷ "exclusiveMaximum" ∷ "exclusiveMinimum" ∷ "format"
    ∷ "if" ∷ "items" ∷ "maxItems" ∷ "maxLength" ∷ "maxProperties" ∷ "maximum" ∷ "minItems"
    ∷ "minLength" ∷ "minProperties" ∷ "minimum" ∷ "multipleOf" ∷ "not" ∷ "oneOf" ∷ "pattern"
    ∷ "patternProperties" ∷ "properties" ∷ "propertyNames" ∷ "required" ∷ "then" ∷ "type"
    ∷ "uniqueItems" ∷ [])

-- what says something about a value without deciding (Draft 4 Validation, section 6; Draft 7 Validation, sections 8 and 10)
abbrev pub telling_4 : List (List ℕ)
telling_4 = map codes ("default" ∷ "description" ∷ "title" ∷ [])

abbrev pub telling_6 : List (List ℕ)
telling_6 = map codes ("default" ∷ "description" ∷ "examples" ∷ "title" ∷ [])

abbrev pub telling_7 : List (List ℕ)
telling_7 =
    map codes
    ("contentEncoding" ∷ "contentMediaType" ∷ "default" ∷ "description" ∷ "examples"
    ∷ "readOnly" ∷ "title" ∷ "writeOnly" ∷ [])

-- The keywords of a draft that decide, and count for nothing beside a `$ref` (Draft 4 Core, 7.1; Draft 7 Core, 8.3): since 2019-09
-- there are none
abbrev pub decides : Draft → List (List ℕ)
decides Draft4 = filter (is_known Draft4) deciding
decides Draft6 = filter (is_known Draft6) deciding
decides Draft7 = filter (is_known Draft7) deciding
decides d = []

-- The others that count for nothing there. An identifier is one of them; a comment and definitions are none: a comment says what it
-- says, and pointers lead into definitions
abbrev pub tells : Draft → List (List ℕ)
tells Draft4 = codes "id" ∷ telling_4
tells Draft6 = codes "$id" ∷ telling_6
tells Draft7 = codes "$id" ∷ telling_7
tells d = []
