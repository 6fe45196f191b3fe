-- Where the children of a document's places are at their paths, so do its places.
use Rattle.std.proofs.Common.{◌≡◌, ◌∙◌, ℕ, List, [], ◌∷◌, map, Some, Result, Ok, Err, refl, ap}
use Rattle.std.specs.Prelude.{option_and_then}
use Rattle.std.specs.List.{AllByRecursion}
use Rattle.serde_json.specs.Data.{Data}
use Rattle.ref_paths.specs.Path.{Part, value_at}
use Rattle.ref_draft.specs.Children.{Walked, AllAreThere, walked_children}
use Rattle.ref_uri.specs.Targets.{Refusal}
use Rattle.ref_definitions.specs.World.{Document}
use Rattle.ref_definitions.specs.Places.{Place, child_place, children_with, places}
use Rattle.ref_definitions.specs.Agreement.{ChildrenAreThere}
use Rattle.ref_definitions.proofs.Changes.{value_at-append}
use Rattle.ref_definitions.proofs.Induction.{places_induct_in}

-- a place's value is at its path in a tree
abbrev pub IsValueAt : Data → Place → Type 0
IsValueAt tree p = value_at tree p.path ≡ Some p.value

abbrev HasChildrenAt : Place → Type 0
HasChildrenAt p = AllAreThere p.value (walked_children p.draft p.value)

pub children_are_there : (tree : Data) (path : List Part) (base : List ℕ) (value : Data) (cs : List Walked) → value_at tree path ≡ Some value → AllAreThere value cs → AllByRecursion (IsValueAt tree) (map (child_place path base) cs)
children_are_there tree path base value [] at all = tt
children_are_there tree path base value (child ∷ cs) at all =
    (value_at-append tree path child.path ∙ ap (option_and_then (λ e. value_at e child.path)) at ∙ all.0, children_are_there tree path base value cs at all.1)

pub below_one : (tree : Data) (p : Place) (base : Result (List ℕ) Refusal) → IsValueAt tree p → HasChildrenAt p → AllByRecursion (IsValueAt tree) (children_with base p)
below_one tree p (Ok base) at all = children_are_there tree p.path base p.value (walked_children p.draft p.value) at all
below_one tree p (Err refusal) at all = tt

pub all_are_there_where : (d : Document) → ChildrenAreThere d → AllByRecursion (IsValueAt d.tree) (places d)
all_are_there_where d children = places_induct_in (IsValueAt d.tree) d (λ p there at. below_one d.tree p p.base at (children p there)) refl
