-- The path of a child begins with the keyword that it is under.
use Rattle.std.proofs.Common.{◌≡◌, ℕ, suc, List, [], ◌∷◌, refl}
use Rattle.std.specs.List.{AllByRecursion}
use Rattle.serde_json.specs.Data.{Data, null, boolean, number, string, array, object, Items, no_items, item, Members, no_members, member}
use Rattle.ref_paths.specs.Path.{Part, Key}
use Rattle.ref_draft.specs.declared.spec.Holding.{Holding}
use Rattle.ref_draft.specs.declared.spec.Holding.TheVariants.{Whole, WholeObject, Elements, Members as EachMember, ElementsOrWhole, ObjectMembers, Nothing}
use Rattle.ref_draft.specs.Children.{Child, whole_child, elements_from, each_member, elements, members, held_children, has_object}
use Rattle.ref_draft.proofs.Lists.{all_filter}

-- a path without its first part
abbrev pub rest_of : List Part → List Part
rest_of [] = []
rest_of (part ∷ path) = path

abbrev pub BeginsWith : List ℕ → Child → Type 0
BeginsWith k child = child.0 ≡ Key k ∷ rest_of child.0

-- each child is under the keyword
abbrev pub AllUnder : List ℕ → List Child → Type 0
AllUnder k cs = AllByRecursion (BeginsWith k) cs

under_elements : (k : List ℕ) (i : ℕ) (ds : Items) → AllUnder k (elements_from k i ds)
under_elements k i no_items = tt
under_elements k i (item d ds) = (refl, under_elements k (suc i) ds)

under_members : (k : List ℕ) (ms : Members) → AllUnder k (each_member k ms)
under_members k no_members = tt
under_members k (member l d ms) = (refl, under_members k ms)

under_array : (k : List ℕ) (v : Data) → AllUnder k (elements k v)
under_array k null = tt
under_array k (boolean b) = tt
under_array k (number x) = tt
under_array k (string s) = tt
under_array k (array ds) = under_elements k 0 ds
under_array k (object ms) = tt

under_array_or_whole : (k : List ℕ) (v : Data) → AllUnder k (held_children ElementsOrWhole k v)
under_array_or_whole k null = (refl, tt)
under_array_or_whole k (boolean b) = (refl, tt)
under_array_or_whole k (number x) = (refl, tt)
under_array_or_whole k (string s) = (refl, tt)
under_array_or_whole k (array ds) = under_elements k 0 ds
under_array_or_whole k (object ms) = (refl, tt)

under_object : (k : List ℕ) (v : Data) → AllUnder k (members k v)
under_object k null = tt
under_object k (boolean b) = tt
under_object k (number x) = tt
under_object k (string s) = tt
under_object k (array ds) = tt
under_object k (object ms) = under_members k ms

pub under_held : (how : Holding) (k : List ℕ) (v : Data) → AllUnder k (held_children how k v)
under_held Whole k v = (refl, tt)
under_held WholeObject k v = all_filter (BeginsWith k) has_object (whole_child k v) (refl, tt)
under_held Elements k v = under_array k v
under_held EachMember k v = under_object k v
under_held ElementsOrWhole k v = under_array_or_whole k v
under_held ObjectMembers k v = all_filter (BeginsWith k) has_object (members k v) (under_object k v)
under_held Nothing k v = tt
