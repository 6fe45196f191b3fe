-- The anchors of a value (2020-12 Core, 8.2.2; 2019-09 Core, 8.2.3; Draft 7 Core, 8.2.3; Draft 6 Core, 9.2; Draft 4
-- Core, 7.2.2).
use Rattle.std.specs.Prelude.{ℕ, List, ◌++◌, drop, codes, if◌then◌else◌, Option, Some, None, option_and_then, option_map}
use Rattle.std.specs.Option.{option_to_list}
use Rattle.serde_json.specs.Data.{Data}
use Rattle.ref_draft.specs.declared.draft.Draft.{Draft}
use Rattle.ref_draft.specs.declared.draft.Draft.TheVariants.{Draft4, Draft6, Draft7, Draft201909, Draft202012, Unknown}
use Rattle.ref_draft.specs.Keywords.{id_keyword}
use Rattle.ref_draft.specs.Schema.{text_under, begins_with_hash}

-- a plain anchor, or a dynamic one
pub data Kind : Type 0 where
  Plain : Kind
  Dynamic : Kind

-- what follows a `#` at the front of a text
abbrev pub after_hash : List ℕ → Option (List ℕ)
after_hash text = if begins_with_hash text then Some (drop 1 text) else None

-- the anchor that is in an identifier
abbrev pub in_identifier : Draft → Data → List (List ℕ × Kind)
in_identifier d value =
    option_to_list
    (option_map (λ name. (name, Plain))
    (option_and_then after_hash (text_under (id_keyword d) value)))

-- the anchor that a keyword names
abbrev pub named_by : List ℕ → Kind → Data → List (List ℕ × Kind)
named_by keyword kind value =
    option_to_list (option_map (λ name. (name, kind)) (text_under keyword value))

-- 2020-12: the plain anchor, then the dynamic one
abbrev pub plain_and_dynamic : Data → List (List ℕ × Kind)
plain_and_dynamic value =
    named_by (codes "$anchor") Plain value ++ named_by (codes "$dynamicAnchor") Dynamic value

-- The names of a value's anchors with their kinds, in order
abbrev pub anchors : Draft → Data → List (List ℕ × Kind)
anchors Draft4 value = in_identifier Draft4 value
anchors Draft6 value = in_identifier Draft6 value
anchors Draft7 value = in_identifier Draft7 value
anchors Draft201909 value = named_by (codes "$anchor") Plain value
anchors Draft202012 value = plain_and_dynamic value
anchors Unknown value = plain_and_dynamic value
