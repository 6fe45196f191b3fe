-- Which schemas are applied to the same value as a schema that they are in, without a step into that value.
use Rattle.std.specs.Prelude.{List, [], ◌∷◌, ℕ, map, codes, Bool, true, false, not, ◌&&◌, ◌||◌, is_some, Option, option_and_then}
use Rattle.std.specs.Option.{option_map_or}
use Rattle.serde_json.specs.Data.{Data}
use Rattle.serde_json.specs.Find.{get}
use Rattle.ref_paths.specs.Path.{Part, Key, Index, child_at}
use Rattle.ref_draft.specs.declared.draft.Draft.{Draft}
use Rattle.ref_draft.specs.declared.draft.Draft.TheVariants.{Draft4, Draft6, Draft7}
use Rattle.ref_draft.specs.Keywords.{is_one_of}
use Rattle.ref_draft.specs.Schema.{text_under}

-- keywords whose value is a schema that is applied to the same value (Draft 4 Validation, 5.5.6; Draft 7 Validation, 6.6 and 6.7; 2020-12 Core, 10.2.1 and 10.2.2)
abbrev pub wholes : Draft → List (List ℕ)
wholes Draft4 = codes "not" ∷ []
wholes Draft6 = codes "not" ∷ []
wholes d = map codes ("not" ∷ "if" ∷ "then" ∷ "else" ∷ [])

-- keywords of which each item is (Draft 4 Validation, 5.5.3 to 5.5.5; 2020-12 Core, 10.2.1)
abbrev pub lists : List (List ℕ)
lists = map codes ("allOf" ∷ "anyOf" ∷ "oneOf" ∷ [])

-- keywords of which each member is (Draft 4 Validation, 5.4.5; 2020-12 Core, 10.2.2.4)
abbrev pub maps : Draft → List (List ℕ)
maps Draft4 = codes "dependencies" ∷ []
maps Draft6 = codes "dependencies" ∷ []
maps Draft7 = codes "dependencies" ∷ []
maps d = codes "dependentSchemas" ∷ []

-- whether what is beside a `$ref` counts for nothing (Draft 4 Core, 7.1; Draft 7 Core, 8.3)
abbrev pub ignores_others : Draft → Bool
ignores_others Draft4 = true
ignores_others Draft6 = true
ignores_others Draft7 = true
ignores_others d = false

-- whether a keyword of a schema counts: beside a `$ref` of those drafts none does, and `then` and `else` do beside an `if` alone
abbrev pub counts : Draft → Data → List ℕ → Bool
counts d t k =
    not (ignores_others d && is_some (text_under (codes "$ref") t))
    && (not (is_one_of k (map codes ("then" ∷ "else" ∷ []))) || is_some (get (codes "if") t))

-- whether the value of a member of a schema is a schema that is applied to the same value
abbrev pub is_whole : Draft → Data → Part → Bool
is_whole d t (Key k) = is_one_of k (wholes d) && counts d t k
is_whole d t (Index i) = false

-- whether what is in that value is
abbrev pub is_inner : Draft → Data → Part → Part → Bool
is_inner d t (Key k) (Index i) = is_one_of k lists && counts d t k
is_inner d t (Key k) (Key m) = is_one_of k (maps d) && counts d t k
is_inner d t (Index i) part = false

-- what a part of a path leads to
abbrev pub below : Option Data → Part → Option Data
below t part = option_and_then (λ u. child_at u part) t

-- Whether a path from a schema leads to one that is applied to the same value
abbrev pub is_in_place : Draft → Option Data → List Part → Bool
is_in_place d t [] = is_some t
is_in_place d t (p ∷ []) =
    option_map_or (λ u. is_whole d u p) t false && is_in_place d (below t p) []
is_in_place d t (p ∷ q ∷ path) =
    option_map_or (λ u. is_whole d u p) t false && is_in_place d (below t p) (q ∷ path)
    || option_map_or (λ u. is_inner d u p q) t false
    && is_in_place d (below (below t p) q) path

-- Of each beginning of a path, whether the rest of the path leads from there to a schema that is applied to the same value
abbrev pub in_place : Draft → Option Data → List Part → List Bool
in_place d t [] = is_in_place d t [] ∷ []
in_place d t (p ∷ path) = is_in_place d t (p ∷ path) ∷ in_place d (below t p) path
