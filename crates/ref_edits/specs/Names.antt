-- Which names there may be.
use Rattle.std.specs.Prelude.{ℕ, Bool, true, false, ◌&&◌, ◌||◌, ◌==◌, List, [], ◌∷◌, codes, bytes_eq, nat_le}
use Rattle.std.specs.List.{list_any}

-- letters and digits of ASCII, and other characters that names of components may have (OpenAPI 3.0 on, "Components Object")
abbrev pub is_letter : ℕ → Bool
is_letter c = (nat_le 65 c && nat_le c 90) || (nat_le 97 c && nat_le c 122)

abbrev pub is_digit : ℕ → Bool
is_digit c = nat_le 48 c && nat_le c 57

abbrev pub is_in_name : ℕ → Bool
is_in_name c = is_letter c || (is_digit c || (c == 46 || (c == 45 || c == 95)))

abbrev pub are_in_name : List ℕ → Bool
are_in_name [] = true
are_in_name (c ∷ rest) = is_in_name c && are_in_name rest

-- a component may be called so
abbrev pub is_component_name : List ℕ → Bool
is_component_name [] = false
is_component_name (c ∷ rest) = are_in_name (c ∷ rest)

-- an anchor may (2020-12 Core, 8.2.2)
abbrev pub is_anchor_name : List ℕ → Bool
is_anchor_name [] = false
is_anchor_name (c ∷ rest) = (is_letter c || c == 95) && are_in_name rest

-- the keywords whose members are definitions, which references alone name (2020-12 Core, 8.2.4; Draft 7 Validation, 9)
abbrev pub names_definitions : List ℕ → Bool
names_definitions keyword = bytes_eq keyword (codes "$defs") || bytes_eq keyword (codes "definitions")
