-- The children of a bundle's root, and its places.
use Rattle.std.proofs.Common.{◌≡◌, ℕ, true, List, [], ◌∷◌, ◌++◌, map, Some, None, option_and_then, ◌⊎◌, inl, inr, refl, sym, ap, ◌∙◌, true≢false}
use Rattle.std.specs.Bool.{⊤}
use Rattle.std.specs.List.{AllByRecursion}
use Rattle.serde_json.specs.Data.{Data, null, boolean, number, string, array, object, Members, put}
use Rattle.serde_json.specs.Find.{get_member, get, as_object}
use Rattle.serde_json.proofs.Views.{get_member-put_other}
use Rattle.ref_paths.specs.Path.{Key}
use Rattle.ref_draft.specs.declared.draft.Draft.{Draft}
use Rattle.ref_draft.specs.Children.{Child, each_member, children, is_object, InKeyOrder}
use Rattle.ref_definitions.specs.Places.{Place, levels_below}
use Rattle.ref_bundle_laws.specs.Merges.{IsMerge, ended, from_first, from_second, IsMergeOf}
use Rattle.ref_bundle.specs.Embedding.{with_member}
use Rattle.ref_bundle.specs.Bundle.{with_all, members_or_none}
use Rattle.ref_bundle_laws.proofs.LawMerges.{all_first, merge_append, merge_levels, nothing_below}
use Rattle.ref_bundle_laws.proofs.LawMembers.{HoldsMembers, MembersUnder, one_more, below_map}

-- ---- merges of merges

pub merge_in_first : {X : Type 0} (all xs rest ys zs : List X) → IsMerge X all xs rest → IsMerge X xs ys zs → (more : List X) × IsMerge X all ys more × IsMerge X more zs rest
merge_in_first all xs rest ys zs ended second = (zs, second, all_first zs)
merge_in_first all xs rest ys zs (from_first x us vs ws first) (from_first y as2 bs cs second) =
    let next = merge_in_first us vs ws bs cs first second in
    (next.0, from_first x us bs next.0 next.1, next.2)
merge_in_first all xs rest ys zs (from_first x us vs ws first) (from_second y as2 bs cs second) =
    let next = merge_in_first us vs ws bs cs first second in
    (x ∷ next.0, from_second x us bs next.0 next.1, from_first x next.0 cs ws next.2)
merge_in_first all xs rest ys zs (from_second y us vs ws first) second =
    let next = merge_in_first us vs ws ys zs first second in
    (y ∷ next.0, from_second y us ys next.0 next.1, from_second y next.0 zs ws next.2)

pub merge_map : {X Y : Type 0} (f : X → Y) (all xs ys : List X) → IsMerge X all xs ys → IsMerge Y (map f all) (map f xs) (map f ys)
merge_map f all xs ys ended = ended
merge_map f all xs ys (from_first x us vs ws merge) = from_first (f x) (map f us) (map f vs) (map f ws) (merge_map f us vs ws merge)
merge_map f all xs ys (from_second y us vs ws merge) = from_second (f y) (map f us) (map f vs) (map f ws) (merge_map f us vs ws merge)

pub map_each : {X Y : Type 0} (f : X → Y) (all : List X) (parts : List (List X)) → IsMergeOf X all parts → IsMergeOf Y (map f all) (map (map f) parts)
map_each f all [] merge = ap (map f) merge
map_each f all (part ∷ parts) merge = (map f merge.0, merge_map f all part merge.0 merge.1, map_each f merge.0 parts merge.2)

-- places, and the levels below them
abbrev pub with_levels : ℕ → List Place → List Place
with_levels n ps = ps ++ levels_below n ps

pub merge_with_levels : (n : ℕ) (all : List Place) (parts : List (List Place)) → IsMergeOf Place all parts → IsMergeOf Place (with_levels n all) (map (with_levels n) parts)
merge_with_levels n all [] merge = ap (with_levels n) merge ∙ nothing_below n
merge_with_levels n all (part ∷ parts) merge = (
  with_levels n merge.0,
  merge_append all part merge.0 (levels_below n all) (levels_below n part) (levels_below n merge.0) merge.1 (merge_levels n all part merge.0 merge.1),
  merge_with_levels n merge.0 parts merge.2,
)

-- ---- the members of the definitions

-- each of these members as a child, alone
abbrev pub each_single : List ℕ → List (List ℕ × Data) → List (List Child)
each_single keyword [] = []
each_single keyword (e ∷ es) = ((Key keyword ∷ Key e.0 ∷ [], e.1) ∷ []) ∷ each_single keyword es

-- none has the key of one before it
abbrev pub KeysApart : List (List ℕ × Data) → Type 0
KeysApart [] = ⊤
KeysApart (e ∷ es) = AllByRecursion (λ f. ¬ (f.0 ≡ e.0)) es × KeysApart es

abbrev pub NoneTaken : Members → List (List ℕ × Data) → Type 0
NoneTaken ms es = AllByRecursion (λ e. get_member e.0 ms ≡ None) es

still_free : (key : List ℕ) (value : Data) (ms : Members) (es : List (List ℕ × Data)) → AllByRecursion (λ f. ¬ (f.0 ≡ key)) es → NoneTaken ms es → NoneTaken (put key value ms) es
still_free key value ms [] other free = tt
still_free key value ms (e ∷ es) other free = (get_member-put_other e.0 key value ms other.0 ∙ free.0, still_free key value ms es other.1 free.1)

pub many_more : (keyword : List ℕ) (es : List (List ℕ × Data)) (ms : Members) → NoneTaken ms es → KeysApart es
    → IsMergeOf Child (each_member keyword (with_all es ms)) (each_member keyword ms ∷ each_single keyword es)
many_more keyword [] ms free apart = ([], all_first (each_member keyword ms), refl)
many_more keyword (e ∷ es) ms free apart =
    let later = many_more keyword es (put e.0 e.1 ms) (still_free e.0 e.1 ms es apart.0 free.1) apart.1 in
    let both = merge_in_first (each_member keyword (with_all es (put e.0 e.1 ms))) (each_member keyword (put e.0 e.1 ms)) later.0 (each_member keyword ms)
    ((Key keyword ∷ Key e.0 ∷ [], e.1) ∷ []) later.1 (one_more keyword e.0 e.1 ms free.0) in
    (both.0, both.1, (later.0, both.2, later.2))

-- ---- the children of the root

-- what a root has under the keyword of definitions is an object, or nothing is there
abbrev pub HasMap : List ℕ → Data → Type 0
HasMap keyword tree = (get keyword tree ≡ None) ⊎ ((few : Members) × (get keyword tree ≡ Some (object few)))

under_of : (keyword : List ℕ) (ms : Members) → HasMap keyword (object ms) → MembersUnder keyword ms (members_or_none (option_and_then as_object (get_member keyword ms)))
under_of keyword ms (inl none) = inl (none, ap (λ o. members_or_none (option_and_then as_object o)) none)
under_of keyword ms (inr (few, some)) = inr (some ∙ ap (λ f. Some (object f)) (sym (ap (λ o. members_or_none (option_and_then as_object o)) some)))

pub children_with_map : (draft : Draft) (keyword : List ℕ) (tree : Data) (es : List (List ℕ × Data)) → HoldsMembers draft keyword → is_object tree ≡ true → InKeyOrder tree → HasMap keyword tree
    → NoneTaken (members_or_none (option_and_then as_object (get keyword tree))) es → KeysApart es
    → IsMergeOf Child (children draft (with_member keyword (object (with_all es (members_or_none (option_and_then as_object (get keyword tree))))) tree)) (children draft tree ∷ each_single keyword es)
children_with_map draft keyword null es holds is sorted has free apart = absurd (true≢false (sym is))
children_with_map draft keyword (boolean b) es holds is sorted has free apart = absurd (true≢false (sym is))
children_with_map draft keyword (number n) es holds is sorted has free apart = absurd (true≢false (sym is))
children_with_map draft keyword (string s) es holds is sorted has free apart = absurd (true≢false (sym is))
children_with_map draft keyword (array ds) es holds is sorted has free apart = absurd (true≢false (sym is))
children_with_map draft keyword (object ms) es holds is sorted has free apart =
    let few = members_or_none (option_and_then as_object (get_member keyword ms)) in
    let many = many_more keyword es few free apart in
    (many.0, below_map draft keyword (with_all es few) few ms many.0 holds sorted (under_of keyword ms has) many.1, many.2)
