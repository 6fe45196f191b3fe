-- Where each object has each key once, its members are found under their keys, and its children are at their paths.
use Rattle.std.proofs.Common.{◌≡◌, ℕ, List, map, Some, None, Ordering, Less, Equal, Greater, nat_cmp, is_eq, refl, sym, ap, subst, ◌∙◌}
use Rattle.std.specs.Cmp.Lexicographic.{slice_cmp}
use Rattle.std.specs.Ordering.{match_ordering}
use Rattle.std.specs.List.{AllByRecursion}
use Rattle.std.proofs.lemmas.Cmp.{nat_list_cmp_total, tied_itself}
use Rattle.std.proofs.lemmas.List.{map-append}
use Rattle.std.proofs.lemmas.Map.Text.{is_eq-slice_cmp}
use Rattle.std.proofs.lemmas.Slice.Eq.{bytes_eq-Decides}
use Rattle.serde_json.specs.Data.{Data, null, boolean, number, string, array, object, Members, no_members, member}
use Rattle.serde_json.specs.Find.{get_member}
use Rattle.ref_paths.specs.Path.{value_at}
use Rattle.ref_draft.specs.declared.draft.Draft.{Draft}
use Rattle.ref_draft.specs.declared.spec.Holding.{Holding}
use Rattle.ref_draft.specs.declared.spec.Holding.TheVariants.{Whole, WholeObject, Elements, Members as EachMember, ElementsOrWhole, ObjectMembers, Nothing}
use Rattle.ref_draft.specs.Keywords.{holding_of}
use Rattle.ref_draft.specs.Children.{AllAreThere, with_draft, held_children, children_below, walked_children, children}
use Rattle.ref_draft.specs.UniqueKeys.{KeysDiffer, HasUniqueKeys, ItemsHaveUniqueKeys, MembersHaveUniqueKeys}
use Rattle.ref_draft.specs.inner.WalkSteps.{AreFoundIn, FindsMembers, FindsMembersWhere}
use Rattle.ref_draft.proofs.Lists.{all_append}
use Rattle.ref_draft.proofs.Hereditary.{Hereditary, in_children}
use Rattle.ref_draft.proofs.Standing.{are_there_held, from_object}

equal_itself : (k : List ℕ) → slice_cmp nat_cmp k k ≡ Equal
equal_itself k = tied_itself nat_list_cmp_total k

not_equal : (k l : List ℕ) → ¬ (k ≡ l) → (o : Ordering) → slice_cmp nat_cmp k l ≡ o → ¬ (o ≡ Equal)
not_equal k l differ o is equal = differ ((bytes_eq-Decides k l).0 (sym (is_eq-slice_cmp k l) ∙ ap is_eq (is ∙ equal)))

absent_step : (k l : List ℕ) (e : Data) (ms : Members) (o : Ordering) → slice_cmp nat_cmp k l ≡ o → match_ordering o (get_member k ms) (Some e) (get_member k ms) ≡ None → (¬ (k ≡ l)) × (get_member k ms ≡ None)
absent_step k l e ms Less is none = (λ same. let e : Less ≡ Equal = sym is ∙ ap (slice_cmp nat_cmp k) (sym same) ∙ equal_itself k in cc, none)
absent_step k l e ms Equal is none = absurd (let f : Some e ≡ None = none in cc)
absent_step k l e ms Greater is none = (λ same. let e : Greater ≡ Equal = sym is ∙ ap (slice_cmp nat_cmp k) (sym same) ∙ equal_itself k in cc, none)

-- a key that members lack is none of theirs
pub absent : (k l : List ℕ) (e : Data) (ms : Members) → get_member k (member l e ms) ≡ None → (¬ (k ≡ l)) × (get_member k ms ≡ None)
absent k l e ms none = absent_step k l e ms (slice_cmp nat_cmp k l) refl none

past_step : (k l : List ℕ) (e : Data) (ms : Members) (o : Ordering) → slice_cmp nat_cmp k l ≡ o → ¬ (o ≡ Equal) → match_ordering o (get_member k ms) (Some e) (get_member k ms) ≡ get_member k ms
past_step k l e ms Less is other = refl
past_step k l e ms Equal is other = absurd (other refl)
past_step k l e ms Greater is other = refl

-- after another key the same is found
past : (k l : List ℕ) (e : Data) (ms : Members) → ¬ (k ≡ l) → get_member k (member l e ms) ≡ get_member k ms
past k l e ms differ = past_step k l e ms (slice_cmp nat_cmp k l) refl (not_equal k l differ (slice_cmp nat_cmp k l) refl)

found_after : (l : List ℕ) (e : Data) (all ms : Members) → get_member l ms ≡ None → AreFoundIn all ms → AreFoundIn (member l e all) ms
found_after l e all no_members none found = tt
found_after l e all (member k d ms) none found =
    let apart = absent l k d ms none in
    (past k l e all (λ same. apart.0 (sym same)) ∙ found.0, found_after l e all ms apart.1 found.1)

all_found : (ms : Members) → KeysDiffer ms → AreFoundIn ms ms
all_found no_members differ = tt
all_found (member k d ms) differ =
    (ap (λ o. match_ordering o (get_member k ms) (Some d) (get_member k ms)) (equal_itself k), found_after k d ms ms differ.0 (all_found ms differ.1))

finds_members : (v : Data) → HasUniqueKeys v → FindsMembers v
finds_members null unique = tt
finds_members (boolean b) unique = tt
finds_members (number x) unique = tt
finds_members (string s) unique = tt
finds_members (array ds) unique = tt
finds_members (object ms) unique = all_found ms unique.0

finds_where : (how : Holding) (v : Data) → HasUniqueKeys v → FindsMembersWhere how v
finds_where Whole v unique = tt
finds_where WholeObject v unique = tt
finds_where Elements v unique = tt
finds_where EachMember v unique = finds_members v unique
finds_where ElementsOrWhole v unique = tt
finds_where ObjectMembers v unique = finds_members v unique
finds_where Nothing v unique = tt

are_there_below : (d : Draft) (all ms : Members) → AreFoundIn all ms → MembersHaveUniqueKeys ms → AllAreThere (object all) (map (with_draft d) (children_below d ms))
are_there_below d all no_members found unique = tt
are_there_below d all (member k v ms) found unique =
    let cs = held_children (holding_of d k) k v in
    subst (AllAreThere (object all)) (sym (map-append (with_draft d) cs (children_below d ms)))
    (all_append (λ child. value_at (object all) child.path ≡ Some child.value) (map (with_draft d) cs) (map (with_draft d) (children_below d ms))
    (from_object d (object all) k v cs found.0 (are_there_held (holding_of d k) k v (finds_where (holding_of d k) v unique.0))) (are_there_below d all ms found.1 unique.1))

pub children_are_there : (d : Draft) (v : Data) → HasUniqueKeys v → AllAreThere v (walked_children d v)
children_are_there d null unique = tt
children_are_there d (boolean b) unique = tt
children_are_there d (number x) unique = tt
children_are_there d (string s) unique = tt
children_are_there d (array ds) unique = tt
children_are_there d (object ms) unique = are_there_below d ms ms (all_found ms unique.0) unique.1

hereditary : Hereditary HasUniqueKeys ItemsHaveUniqueKeys MembersHaveUniqueKeys
hereditary = record {
  element = λ d ds unique. unique.0;
  elements = λ d ds unique. unique.1;
  value = λ k d ms unique. unique.0;
  members = λ k d ms unique. unique.1;
  in_array = λ ds unique. unique;
  in_object = λ ms unique. unique.1;
}

pub unique_children : (d : Draft) (v : Data) → HasUniqueKeys v → AllByRecursion (λ child. HasUniqueKeys child.1) (children d v)
unique_children d v unique = in_children HasUniqueKeys ItemsHaveUniqueKeys MembersHaveUniqueKeys hereditary d v unique
