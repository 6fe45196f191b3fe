-- Components: values of a document that references lead to by a kind and a name, or by a name (OpenAPI 3.1, 4.8.7, "Components Object"; Swagger 2.0,
-- "Definitions Object", "Parameters Definitions Object" and "Responses Definitions Object"; JSON Schema 2020-12, Core, 8.2.4).
use Rattle.std.specs.Prelude.{ℕ, Bool, ◌||◌, ◌&&◌, nat_le, List, [], ◌∷◌, length, take, codes, bytes_eq, if◌then◌else◌}
use Rattle.ref_paths.specs.Path.{Part, Key, Index}

-- the members of a document that hold components by their names
abbrev pub holds_named : List ℕ → Bool
holds_named key =
    bytes_eq key (codes "definitions") || bytes_eq key (codes "parameters")
    || bytes_eq key (codes "responses") || bytes_eq key (codes "$defs")

-- how many parts a component's path has that begins with a key, where so many parts come after that
abbrev pub parts_after : List ℕ → ℕ → ℕ
parts_after key more =
    if bytes_eq key (codes "components") then (if nat_le 2 more then 3 else 0)
    else (if holds_named key && nat_le 1 more then 2 else 0)

-- how many parts of a path lead to the component that holds its end, or none where no component does
abbrev pub parts_of_component : List Part → ℕ
parts_of_component [] = 0
parts_of_component (Index i ∷ rest) = 0
parts_of_component (Key key ∷ rest) = parts_after key (length rest)
