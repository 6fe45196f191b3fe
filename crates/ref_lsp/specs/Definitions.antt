-- Where the definitions of a document are, beside those at its root.
use Rattle.std.specs.Prelude.{ℕ, ◌&&◌, ◌||◌, Bool, List, [], ◌∷◌, map, not, bytes_eq, codes}
use Rattle.ref_workspace.specs.Referring.{is_one_of}
use Rattle.ref_lsp.specs.Keys.{definitions}

-- the keywords whose value is data, or has examples
abbrev pub data_keys : List (List ℕ)
data_keys = map codes ("enum" ∷ "const" ∷ "default" ∷ "example" ∷ "examples" ∷ [])

abbrev pub is_data : List ℕ → Bool
is_data key = is_one_of data_keys key

-- no definitions are in the value under a key of an object whose keys are names that somebody gave, or keywords
abbrev pub is_passed : Bool → List ℕ → Bool
is_passed are_names key = not are_names && is_data key

-- its members are definitions (JSON Schema 2020-12, 8.2.4; Draft 4 Validation, 5.5.7)
abbrev pub are_definitions : Bool → List ℕ → Bool
are_definitions are_names key = not are_names && is_one_of definitions key

-- the keywords whose value has subschemas by names (2020-12, 10.3.2; Draft 7 Validation, 6.5.7)
abbrev pub named : List (List ℕ)
named = map codes ("properties" ∷ "patternProperties" ∷ "dependentSchemas" ∷ "dependencies" ∷ [])

-- its keys are names, where the object is at a pointer: the components of a description have names in each of their members
abbrev pub has_names : List ℕ → Bool → List ℕ → Bool
has_names front are_names key =
    not are_names
    && (is_one_of definitions key || (bytes_eq front (codes "/components") || is_one_of named key))
