-- What is between a schema and its child: the array or the map of subschemas that the child's keyword has.
use Rattle.std.specs.Prelude.{◌≡◌, ◌≢◌, ℕ, Some, List, [], ◌++◌, Bool, false, is_some, IsTrue, ◌⊎◌}
use Rattle.std.specs.List.{AllByRecursion}
use Rattle.serde_json.specs.Data.{Data}
use Rattle.serde_json.specs.Find.{as_array}
use Rattle.ref_paths.specs.Path.{Part, value_at}
use Rattle.ref_draft.specs.declared.draft.Draft.{Draft}
use Rattle.ref_draft.specs.Keywords.{is_before_2020, is_map_keyword}
use Rattle.ref_draft.specs.Children.{Child, is_object, keyword_of}
use Rattle.ref_draft.specs.Scan.{IsAccepted}

-- whether a value is an array
abbrev pub is_array : Data → Bool
is_array value = is_some (as_array value)

-- a map of subschemas: an object under a keyword whose members are schemas
pub record IsMapOfSchemas (d : Draft) (keyword : List ℕ) (value : Data) : Type 0 where
  pub object : IsTrue (is_object value)
  pub keyword_of_a_map : IsTrue (is_map_keyword d keyword)

-- A beginning of a child's path leads to an array or to a map of subschemas, and since 2020-12 it isn't accepted after
-- accepted parts.
pub record EndsWithin (d : Draft) (parts : List Part) (value : Data)
    (beginning : List Part) : Type 0 where
  pub within : Data
  pub there : value_at value beginning ≡ Some within
  pub between : IsTrue (is_array within) ⊎ IsMapOfSchemas d (keyword_of beginning) within
  pub not_accepted : is_before_2020 d ≡ false → ¬ (IsAccepted d (parts ++ beginning) within)

-- each nonempty proper beginning of the paths of children
abbrev pub AllEndWithin : Draft → List Part → Data → List Child → Type 0
AllEndWithin d parts value cs =
    AllByRecursion
    (λ child. (beginning rest : List Part) → child.0 ≡ beginning ++ rest → beginning ≢ []
    → rest ≢ [] → EndsWithin d parts value beginning) cs
