-- A child is at its path.
use Rattle.std.proofs.Common.{◌≡◌, ℕ, zero, suc, ◌+◌, List, [], ◌∷◌, ◌++◌, map, Some, None, option_map, option_and_then, String, Global, string_cmp, string_bytes, refl, sym, ap, ◌∙◌, All, arith}
use Rattle.std.specs.List.{AllByRecursion}
use Rattle.std.specs.Map.{lookup}
use Rattle.std.specs.BTreeMap.{is_at}
use Rattle.std.proofs.lemmas.List.Elements.{recursion_from_All}
use Rattle.serde_json.specs.Data.{Data, null, boolean, number, string, array, object, Items, no_items, item, Members, no_members, member}
use Rattle.serde_json.specs.Find.{as_object, get, get_item, get_member}
use Rattle.serde_json.specs.View.{view, members_view}
use Rattle.serde_json.specs.declared.value.Value.{Value}
use Rattle.serde_json.proofs.Views.{view-lookup}
use Rattle.ref_paths.specs.Path.{Key, value_at}
use Rattle.ref_draft.specs.declared.draft.Draft.{Draft}
use Rattle.ref_draft.specs.declared.spec.Holding.{Holding}
use Rattle.ref_draft.specs.declared.spec.Holding.TheVariants.{Whole, WholeObject, Elements, Members as EachMember, ElementsOrWhole, ObjectMembers, Nothing}
use Rattle.ref_draft.specs.Children.{Child, Walked, with_draft, AllAreThere, whole_child, elements_from, each_member, elements, members, held_children, has_object}
use Rattle.ref_draft.specs.inner.WalkSteps.{AreFoundIn, FindsMembers, FindsMembersWhere, members_in}
use Rattle.ref_draft.proofs.Lists.{all_append, all_filter}
use Rattle.ref_draft.proofs.Under.{rest_of}

-- each child's path is the keyword and what leads to it from the keyword's value
abbrev pub IsThereUnder : List ℕ → Data → Child → Type 0
IsThereUnder k v child = (child.0 ≡ Key k ∷ rest_of child.0) × (value_at v (rest_of child.0) ≡ Some child.1)

abbrev pub AreThereUnder : List ℕ → Data → List Child → Type 0
AreThereUnder k v cs = AllByRecursion (IsThereUnder k v) cs

shift : (i j : ℕ) → i + suc j ≡ suc i + j
shift i j = omega arith

start : (i : ℕ) → i ≡ i + zero
start i = omega arith

front : (j : ℕ) → j ≡ 0 + j
front j = omega arith

are_there_elements_from : (k : List ℕ) (i : ℕ) (ds all : Items) → ((j : ℕ) → get_item j ds ≡ get_item (i + j) all) → AreThereUnder k (array all) (elements_from k i ds)
are_there_elements_from k i no_items all same = tt
are_there_elements_from k i (item d ds) all same = (
  (refl, ap (option_and_then (λ e. Some e)) (ap (λ n. get_item n all) (start i) ∙ sym (same zero))),
  are_there_elements_from k (suc i) ds all (λ j. same (suc j) ∙ ap (λ n. get_item n all) (shift i j)),
)

are_there_each_member : (k : List ℕ) (all ms : Members) → AreFoundIn all ms → AreThereUnder k (object all) (each_member k ms)
are_there_each_member k all no_members found = tt
are_there_each_member k all (member l d ms) found = ((refl, ap (option_and_then (λ e. Some e)) found.0), are_there_each_member k all ms found.1)

are_there_elements : (k : List ℕ) (v : Data) → AreThereUnder k v (elements k v)
are_there_elements k null = tt
are_there_elements k (boolean b) = tt
are_there_elements k (number x) = tt
are_there_elements k (string s) = tt
are_there_elements k (array ds) = are_there_elements_from k 0 ds ds (λ j. ap (λ n. get_item n ds) (front j))
are_there_elements k (object ms) = tt

are_there_elements_or_whole : (k : List ℕ) (v : Data) → AreThereUnder k v (held_children ElementsOrWhole k v)
are_there_elements_or_whole k null = ((refl, refl), tt)
are_there_elements_or_whole k (boolean b) = ((refl, refl), tt)
are_there_elements_or_whole k (number x) = ((refl, refl), tt)
are_there_elements_or_whole k (string s) = ((refl, refl), tt)
are_there_elements_or_whole k (array ds) = are_there_elements_from k 0 ds ds (λ j. ap (λ n. get_item n ds) (front j))
are_there_elements_or_whole k (object ms) = ((refl, refl), tt)

are_there_members : (k : List ℕ) (v : Data) → FindsMembers v → AreThereUnder k v (members k v)
are_there_members k null u = tt
are_there_members k (boolean b) u = tt
are_there_members k (number x) u = tt
are_there_members k (string s) u = tt
are_there_members k (array ds) u = tt
are_there_members k (object ms) u = are_there_each_member k ms ms u

pub are_there_held : (how : Holding) (k : List ℕ) (v : Data) → FindsMembersWhere how v → AreThereUnder k v (held_children how k v)
are_there_held Whole k v u = ((refl, refl), tt)
are_there_held WholeObject k v u = all_filter (IsThereUnder k v) has_object (whole_child k v) ((refl, refl), tt)
are_there_held Elements k v u = are_there_elements k v
are_there_held EachMember k v u = are_there_members k v u
are_there_held ElementsOrWhole k v u = are_there_elements_or_whole k v
are_there_held ObjectMembers k v u = all_filter (IsThereUnder k v) has_object (members k v) (are_there_members k v u)
are_there_held Nothing k v u = tt

-- ---- from an object

-- found under its key, the keyword's value has its children where the object has them
pub from_object : (d : Draft) (t : Data) (k : List ℕ) (v : Data) (cs : List Child) → get k t ≡ Some v → AreThereUnder k v cs → AllAreThere t (map (with_draft d) cs)
from_object d t k v [] found p = tt
from_object d t k v (c ∷ cs) found p =
    (ap (value_at t) p.0.0 ∙ ap (option_and_then (λ e. value_at e (rest_of c.0))) found ∙ p.0.1, from_object d t k v cs found p.1)

get_in : (t : Data) (k : List ℕ) (v : Data) → get_member k (members_in t) ≡ Some v → get k t ≡ Some v
get_in null k v e = e
get_in (boolean b) k v e = e
get_in (number x) k v e = e
get_in (string s) k v e = e
get_in (array ds) k v e = e
get_in (object ms) k v e = e

-- one keyword more
pub step : (d : Draft) (t : Data) (how : Holding) (k : List ℕ) (v : Data) (done all : List Walked) → AllAreThere t done → get_member k (members_in t) ≡ Some v → FindsMembersWhere how v → all ≡ done ++ map (with_draft d) (held_children how k v) → AllAreThere t all
step d t how k v done all before found unique is = rw is (all_append (λ child. value_at t child.path ≡ Some child.value) done (map (with_draft d) (held_children how k v)) before (from_object d t k v (held_children how k v) (get_in t k v found) (are_there_held how k v unique)))

-- ---- the entries of a map

found_from : (all es : List (String Global × Value)) → AllByRecursion (λ e. lookup (is_at (string_cmp e.0)) all ≡ Some e.1) es → AreFoundIn (members_view all) (members_view es)
found_from all [] p = tt
found_from all (e ∷ es) p = (sym (view-lookup (string_bytes e.0) all) ∙ ap (option_map view) p.0, found_from all es p.1)

-- what the library finds by its key is found among the members
pub are_found : (all : List (String Global × Value)) → All (λ e. lookup (is_at (string_cmp e.0)) all ≡ Some e.1) all → AreFoundIn (members_view all) (members_view all)
are_found all p = found_from all all (recursion_from_All _ all p)

pub members_in_is : (t : Data) (ms : Members) → Some ms ≡ as_object t → members_in t ≡ ms
members_in_is null ms e = absurd (cc)
members_in_is (boolean b) ms e = absurd (cc)
members_in_is (number x) ms e = absurd (cc)
members_in_is (string s) ms e = absurd (cc)
members_in_is (array ds) ms e = absurd (cc)
members_in_is (object ns) ms e = cc

pub unique_object : (t : Data) (ms : Members) → Some ms ≡ as_object t → AreFoundIn ms ms → FindsMembers t
unique_object null ms e found = tt
unique_object (boolean b) ms e found = tt
unique_object (number x) ms e found = tt
unique_object (string s) ms e found = tt
unique_object (array ds) ms e found = tt
unique_object (object ns) ms e found = let same : ms ≡ ns = cc in rw (← same) found

pub unique_other : (t : Data) → None ≡ as_object t → FindsMembers t
unique_other null e = tt
unique_other (boolean b) e = tt
unique_other (number x) e = tt
unique_other (string s) e = tt
unique_other (array ds) e = tt
unique_other (object ns) e = absurd (cc)
