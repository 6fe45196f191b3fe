-- The values of the children under one keyword, as lists of values of the program.
use Rattle.std.proofs.Common.{◌≡◌, ℕ, suc, List, [], ◌∷◌, map, Bool, true, false, cond, refl, ap, ◌∙◌, String, Global}
use Rattle.std.specs.List.{filter}
use Rattle.std.specs.Map.{values_of}
use Rattle.serde_json.specs.Data.{Data}
use Rattle.serde_json.specs.View.{view, items_view, members_view}
use Rattle.serde_json.specs.declared.value.Value.{Value}
use Rattle.ref_draft.specs.Children.{Child, elements_from, each_member, is_object, has_object}
use Rattle.ref_draft.specs.Views.{objects_of}

abbrev pub value_of : Child → Data
value_of child = child.1

pub values-elements : (keyword : List ℕ) (i : ℕ) (values : List Value) → map value_of (elements_from keyword i (items_view values)) ≡ map view values
values-elements keyword i [] = refl
values-elements keyword i (v ∷ values) = ap (λ ds. view v ∷ ds) (values-elements keyword (suc i) values)

pub values-members : (keyword : List ℕ) (entries : List (String Global × Value)) → map value_of (each_member keyword (members_view entries)) ≡ map view (values_of entries)
values-members keyword [] = refl
values-members keyword (e ∷ entries) = ap (λ ds. view e.1 ∷ ds) (values-members keyword entries)

kept : (b : Bool) (child : Child) (children : List Child) → map value_of (cond b (child ∷ children) children) ≡ cond b (value_of child ∷ map value_of children) (map value_of children)
kept true child children = refl
kept false child children = refl

pub values-filter : (children : List Child) → map value_of (filter has_object children) ≡ filter is_object (map value_of children)
values-filter [] = refl
values-filter (child ∷ children) = kept (has_object child) child (filter has_object children) ∙ ap (λ ds. cond (has_object child) (value_of child ∷ ds) ds) (values-filter children)

pub values-objects : (keyword : List ℕ) (entries : List (String Global × Value)) → map value_of (filter has_object (each_member keyword (members_view entries))) ≡ objects_of (values_of entries)
values-objects keyword entries = values-filter (each_member keyword (members_view entries)) ∙ ap (filter is_object) (values-members keyword entries)
