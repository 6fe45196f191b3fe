-- Which references lead to what is no schema.
use Rattle.std.specs.Prelude.{ℕ, List, map, filter, Bool, true, false, not, ◌&&◌, ◌||◌, is_some, Option}
use Rattle.std.specs.Option.{option_map_or}
use Rattle.std.specs.List.{enumerate_from}
use Rattle.serde_json.specs.Data.{Data}
use Rattle.serde_json.specs.Find.{as_bool}
use Rattle.ref_draft.specs.declared.draft.Draft.{Draft}
use Rattle.ref_draft.specs.declared.draft.Draft.TheVariants.{Draft4}
use Rattle.ref_draft.specs.Children.{is_object}

-- whether a draft has booleans as schemas: Draft 4 hasn't (Draft 4 Core, 3.2 and 3.4)
abbrev pub has_booleans : Draft → Bool
has_booleans Draft4 = false
has_booleans d = true

-- whether a value is a schema of a draft (Draft 6 Core, 4.4; 2020-12 Core, 4.3)
abbrev pub is_schema : Draft → Data → Bool
is_schema d value = is_object value || has_booleans d && is_some (as_bool value)

-- What a reference leads to: a value, and the draft that it is read by
pub record End : Type 0 where
  pub draft : Draft
  pub value : Data

-- whether that is no schema, where the reference leads anywhere
abbrev pub is_no_schema : ℕ × Option End → Bool
is_no_schema e = option_map_or (λ end. not (is_schema end.draft end.value)) e.1 false

-- The numbers of those references that lead to what is no schema
abbrev pub no_schemas : List (Option End) → List ℕ
no_schemas ends = map (λ e. e.0) (filter is_no_schema (enumerate_from 0 ends))
