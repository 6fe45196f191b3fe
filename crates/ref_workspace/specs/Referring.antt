-- Keys under which texts refer to something, and on the way to which nothing does.
use Rattle.std.specs.Prelude.{ℕ, Bool, List, [], ◌∷◌, map, bytes_eq, codes}
use Rattle.std.specs.List.{list_any}

abbrev pub is_one_of : List (List ℕ) → List ℕ → Bool
is_one_of names name = list_any (λ own. bytes_eq own name) names

-- the keywords whose text refers to something (JSON Schema 2020-12, 8.1.1 and 8.2.3; 2019-09, 8.2.4.2.1; OpenAPI 3.1, 4.8.20)
abbrev pub referring : List (List ℕ)
referring =
    map codes ("$ref" ∷ "$dynamicRef" ∷ "$recursiveRef" ∷ "$schema" ∷ "operationRef" ∷ [])

abbrev pub is_referring : List ℕ → Bool
is_referring key = is_one_of referring key

-- the keywords whose value is data: nothing in it refers to something
abbrev pub data_keys : List (List ℕ)
data_keys = map codes ("enum" ∷ "const" ∷ "default" ∷ "example" ∷ [])

abbrev pub is_data : List ℕ → Bool
is_data key = is_one_of data_keys key

-- the keys whose values have keys that somebody gave: those of JSON Schema, and those of a description
abbrev pub named : List (List ℕ)
named =
    map codes
    ("properties" ∷ "patternProperties" ∷ "$defs" ∷ "definitions" ∷ "dependentSchemas" ∷ "dependencies"
    ∷ "schemas" ∷ "responses" ∷ "parameters" ∷ "requestBodies" ∷ "headers" ∷ "securitySchemes" ∷ "links"
    ∷ "callbacks" ∷ "pathItems" ∷ "paths" ∷ "webhooks" ∷ "additionalOperations" ∷ "content" ∷ "encoding"
    ∷ "mediaTypes" ∷ "examples" ∷ [])

abbrev pub has_names : List ℕ → Bool
has_names key = is_one_of named key
