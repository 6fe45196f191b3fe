-- The subschemas of a schema: what is right below it under its draft's keywords (2020-12 Core, section 10;
-- earlier drafts as `Keywords` lists).
use Rattle.std.specs.Prelude.{◌≡◌, Some, ℕ, suc, List, [], ◌∷◌, ◌++◌, map, filter, Bool, not, is_some}
use Rattle.std.specs.Option.{option_map_or}
use Rattle.serde_json.specs.Data.{Data, Items, no_items, item, Members, no_members, member}
use Rattle.serde_json.specs.Find.{as_array, as_object}
use Rattle.ref_paths.specs.Path.{Part, Key, Index, value_at}
use Rattle.std.specs.Cmp.Lexicographic.{slice_cmp}
use Rattle.std.specs.List.{AllByRecursion}
use Rattle.std.specs.List.Sorted.{IsStrictlySortedBy}
use Rattle.std.specs.Ordering.{nat_cmp}
use Rattle.ref_draft.specs.declared.draft.Draft.{Draft}
use Rattle.ref_draft.specs.declared.spec.Holding.{Holding}
use Rattle.ref_draft.specs.declared.spec.Holding.TheVariants.{Whole, WholeObject, Elements, Members as EachMember, ElementsOrWhole, ObjectMembers, Nothing}
use Rattle.ref_draft.specs.Keywords.{holding_of, is_left_out}
use Rattle.ref_draft.specs.Schema.{detect}

-- a child: its path, and its value
abbrev pub Child : Type 0
Child = List Part × Data

-- the value itself, under its keyword
abbrev pub whole_child : List ℕ → Data → List Child
whole_child keyword value = (Key keyword ∷ [], value) ∷ []

-- each element, under the keyword and its index, counted from i on
abbrev pub elements_from : List ℕ → ℕ → Items → List Child
elements_from keyword i no_items = []
elements_from keyword i (item d ds) =
    (Key keyword ∷ Index i ∷ [], d) ∷ elements_from keyword (suc i) ds

-- each member, under the keyword and its key
abbrev pub each_member : List ℕ → Members → List Child
each_member keyword no_members = []
each_member keyword (member key d ms) = (Key keyword ∷ Key key ∷ [], d) ∷ each_member keyword ms

-- the elements where the value is an array
abbrev pub elements : List ℕ → Data → List Child
elements keyword value = option_map_or (elements_from keyword 0) (as_array value) []

-- the members where the value is an object, in their order
abbrev pub members : List ℕ → Data → List Child
members keyword value = option_map_or (each_member keyword) (as_object value) []

-- whether a value is an object
abbrev pub is_object : Data → Bool
is_object value = is_some (as_object value)

-- whether a child is an object
abbrev pub has_object : Child → Bool
has_object child = is_object child.1

-- the children under one keyword, by how it holds them
abbrev pub held_children : Holding → List ℕ → Data → List Child
held_children Whole keyword value = whole_child keyword value
held_children WholeObject keyword value = filter has_object (whole_child keyword value)
held_children Elements keyword value = elements keyword value
held_children EachMember keyword value = members keyword value
held_children ElementsOrWhole keyword value =
    option_map_or (elements_from keyword 0) (as_array value) (whole_child keyword value)
held_children ObjectMembers keyword value = filter has_object (members keyword value)
held_children Nothing keyword value = []

-- the children under each of an object's keywords, in the order of the members
abbrev pub children_below : Draft → Members → List Child
children_below d no_members = []
children_below d (member keyword value ms) =
    held_children (holding_of d keyword) keyword value ++ children_below d ms

-- The children of a value, in the order of its members: none where it is no object. The members of a value of `serde_json`
-- come in byte order of their keys (`InKeyOrder`), since its map keeps them so.
abbrev pub children : Draft → Data → List Child
children d value = option_map_or (children_below d) (as_object value) []

-- the keys of members, in their order
abbrev pub keys_of : Members → List (List ℕ)
keys_of no_members = []
keys_of (member key d ms) = key ∷ keys_of ms

-- where a value is an object, its members come in byte order of their keys, each key once
abbrev pub InKeyOrder : Data → Type 0
InKeyOrder value =
    IsStrictlySortedBy (slice_cmp nat_cmp) (option_map_or keys_of (as_object value) [])

-- a child with the draft that is detected on it
pub record Walked : Type 0 where
  pub path : List Part
  pub value : Data
  pub draft : Draft

-- a child with the draft that d detects on it
abbrev pub with_draft : Draft → Child → Walked
with_draft d child = record { path = child.0; value = child.1; draft = detect d child.1 }

-- The children with their drafts
abbrev pub walked_children : Draft → Data → List Walked
walked_children d value = map (with_draft d) (children d value)

-- each child is at its path
abbrev pub AllAreThere : Data → List Walked → Type 0
AllAreThere value children =
    AllByRecursion (λ child. value_at value child.path ≡ Some child.value) children

-- the keyword at the front of a path
abbrev pub keyword_of : List Part → List ℕ
keyword_of (Key keyword ∷ path) = keyword
keyword_of path = []

-- whether `subresources_of` gives a child
abbrev pub is_given : Draft → Child → Bool
is_given d child = not (is_left_out d (keyword_of child.0))

-- The values that `subresources_of` gives: those of the children but for what it leaves out
abbrev pub subresources : Draft → Data → List Data
subresources d value = map (λ child. child.1) (filter (is_given d) (children d value))
