-- What holds of a value, and so of each element and member of it, holds of its children.
use Rattle.std.proofs.Common.{ℕ, suc, List}
use Rattle.std.specs.List.{AllByRecursion}
use Rattle.serde_json.specs.Data.{Data, null, boolean, number, string, array, object, Items, no_items, item, Members, no_members, member}
use Rattle.ref_draft.specs.declared.draft.Draft.{Draft}
use Rattle.ref_draft.specs.declared.spec.Holding.{Holding}
use Rattle.ref_draft.specs.declared.spec.Holding.TheVariants.{Whole, WholeObject, Elements, Members as EachMember, ElementsOrWhole, ObjectMembers, Nothing}
use Rattle.ref_draft.specs.Keywords.{holding_of}
use Rattle.ref_draft.specs.Children.{Child, whole_child, elements_from, each_member, elements, members, held_children, children_below, children, has_object}
use Rattle.ref_draft.proofs.Lists.{all_append, all_filter}

-- of values, of the elements of arrays and of the members of objects
pub record Hereditary (P : Data → Type 0) (I : Items → Type 0) (M : Members → Type 0) : Type 0 where
  pub element : (d : Data) (ds : Items) → I (item d ds) → P d
  pub elements : (d : Data) (ds : Items) → I (item d ds) → I ds
  pub value : (k : List ℕ) (d : Data) (ms : Members) → M (member k d ms) → P d
  pub members : (k : List ℕ) (d : Data) (ms : Members) → M (member k d ms) → M ms
  pub in_array : (ds : Items) → P (array ds) → I ds
  pub in_object : (ms : Members) → P (object ms) → M ms

module _ (P : Data → Type 0) (I : Items → Type 0) (M : Members → Type 0) (h : Hereditary P I M) where
  abbrev Each : List Child → Type 0
  Each cs = AllByRecursion (λ child. P child.1) cs

  in_elements : (k : List ℕ) (i : ℕ) (ds : Items) → I ds → Each (elements_from k i ds)
  in_elements k i no_items p = tt
  in_elements k i (item d ds) p = (h.element d ds p, in_elements k (suc i) ds (h.elements d ds p))

  in_members : (k : List ℕ) (ms : Members) → M ms → Each (each_member k ms)
  in_members k no_members p = tt
  in_members k (member l d ms) p = (h.value l d ms p, in_members k ms (h.members l d ms p))

  in_array_of : (k : List ℕ) (v : Data) → P v → Each (elements k v)
  in_array_of k null p = tt
  in_array_of k (boolean b) p = tt
  in_array_of k (number x) p = tt
  in_array_of k (string s) p = tt
  in_array_of k (array ds) p = in_elements k 0 ds (h.in_array ds p)
  in_array_of k (object ms) p = tt

  in_array_or_whole : (k : List ℕ) (v : Data) → P v → Each (held_children ElementsOrWhole k v)
  in_array_or_whole k null p = (p, tt)
  in_array_or_whole k (boolean b) p = (p, tt)
  in_array_or_whole k (number x) p = (p, tt)
  in_array_or_whole k (string s) p = (p, tt)
  in_array_or_whole k (array ds) p = in_elements k 0 ds (h.in_array ds p)
  in_array_or_whole k (object ms) p = (p, tt)

  in_object_of : (k : List ℕ) (v : Data) → P v → Each (members k v)
  in_object_of k null p = tt
  in_object_of k (boolean b) p = tt
  in_object_of k (number x) p = tt
  in_object_of k (string s) p = tt
  in_object_of k (array ds) p = tt
  in_object_of k (object ms) p = in_members k ms (h.in_object ms p)

  in_held : (how : Holding) (k : List ℕ) (v : Data) → P v → Each (held_children how k v)
  in_held Whole k v p = (p, tt)
  in_held WholeObject k v p = all_filter (λ child. P child.1) has_object (whole_child k v) (p, tt)
  in_held Elements k v p = in_array_of k v p
  in_held EachMember k v p = in_object_of k v p
  in_held ElementsOrWhole k v p = in_array_or_whole k v p
  in_held ObjectMembers k v p = all_filter (λ child. P child.1) has_object (members k v) (in_object_of k v p)
  in_held Nothing k v p = tt

  pub in_below : (d : Draft) (ms : Members) → M ms → Each (children_below d ms)
  in_below d no_members p = tt
  in_below d (member k v ms) p =
      all_append (λ child. P child.1) (held_children (holding_of d k) k v) (children_below d ms) (in_held (holding_of d k) k v (h.value k v ms p)) (in_below d ms (h.members k v ms p))

  pub in_children : (d : Draft) (t : Data) → P t → AllByRecursion (λ child. P child.1) (children d t)
  in_children d null p = tt
  in_children d (boolean b) p = tt
  in_children d (number x) p = tt
  in_children d (string s) p = tt
  in_children d (array ds) p = tt
  in_children d (object ms) p = in_below d ms (h.in_object ms p)
