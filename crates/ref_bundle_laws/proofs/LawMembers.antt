-- The children of an object that was given a member.
use Rattle.std.proofs.Common.{◌≡◌, ℕ, List, [], ◌∷◌, ◌++◌, Some, None, Ordering, Less, Equal, Greater, nat_cmp, is_eq, ◌⊎◌, inl, inr, refl, sym, ap, subst, ◌∙◌, append-nil}
use Rattle.std.specs.List.{AllByRecursion}
use Rattle.std.specs.List.Sorted.{IsStrictlySortedBy}
use Rattle.std.specs.Ordering.{match_ordering}
use Rattle.std.specs.Cmp.Lexicographic.{slice_cmp}
use Rattle.std.proofs.lemmas.Cmp.{nat_list_cmp_total}
use Rattle.std.proofs.lemmas.Map.Text.{is_eq-slice_cmp}
use Rattle.std.proofs.lemmas.Slice.Eq.{bytes_eq-Decides}
use Rattle.serde_json.specs.Data.{Data, null, boolean, number, string, array, object, Members, no_members, member, put}
use Rattle.serde_json.specs.Find.{get_member, get}
use Rattle.serde_json.proofs.Views.{get_member-put_other}
use Rattle.ref_paths.specs.Path.{Key}
use Rattle.ref_draft.specs.declared.draft.Draft.{Draft}
use Rattle.ref_draft.specs.Keywords.{holding_of}
use Rattle.ref_draft.specs.Children.{Child, each_member, held_children, children_below, children, keys_of}
use Rattle.ref_bundle_laws.specs.Merges.{IsMerge, ended, from_first, from_second}
use Rattle.ref_bundle.specs.Embedding.{with_member}
use Rattle.ref_bundle_laws.proofs.LawMerges.{all_first, merge_append}

pub equal_keys : (k l : List ℕ) → slice_cmp nat_cmp k l ≡ Equal → k ≡ l
equal_keys k l is = (bytes_eq-Decides k l).0 (sym (is_eq-slice_cmp k l) ∙ ap is_eq is)

-- nothing under a keyword is a schema, or the members of its object are
abbrev pub HoldsNone : Draft → List ℕ → Type 0
HoldsNone draft key = (value : Data) → held_children (holding_of draft key) key value ≡ []

abbrev pub HoldsMembers : Draft → List ℕ → Type 0
HoldsMembers draft key = (ms : Members) → held_children (holding_of draft key) key (object ms) ≡ each_member key ms

-- ---- a member that holds no schema

below_put_at : (draft : Draft) (key l : List ℕ) (value e : Data) (ms : Members) (o : Ordering) → slice_cmp nat_cmp key l ≡ o → HoldsNone draft key → children_below draft (put key value ms) ≡ children_below draft ms
    → children_below draft (match_ordering o (member key value (member l e ms)) (member l value ms) (member l e (put key value ms))) ≡ children_below draft (member l e ms)
below_put_at draft key l value e ms Less is none later = ap (λ cs. cs ++ children_below draft (member l e ms)) (none value)
below_put_at draft key l value e ms Equal is none later =
    let same : HoldsNone draft l = subst (HoldsNone draft) (equal_keys key l is) none in
    ap (λ cs. cs ++ children_below draft ms) (same value) ∙ sym (ap (λ cs. cs ++ children_below draft ms) (same e))
below_put_at draft key l value e ms Greater is none later = ap (λ more. held_children (holding_of draft l) l e ++ more) later

pub below_put : (draft : Draft) (key : List ℕ) (value : Data) (ms : Members) → HoldsNone draft key → children_below draft (put key value ms) ≡ children_below draft ms
below_put draft key value no_members none = ap (λ cs. cs ++ []) (none value)
below_put draft key value (member l e ms) none = below_put_at draft key l value e ms (slice_cmp nat_cmp key l) refl none (below_put draft key value ms none)

pub children_with_member : (draft : Draft) (key : List ℕ) (value tree : Data) → HoldsNone draft key → children draft (with_member key value tree) ≡ children draft tree
children_with_member draft key value null none = refl
children_with_member draft key value (boolean b) none = refl
children_with_member draft key value (number n) none = refl
children_with_member draft key value (string s) none = refl
children_with_member draft key value (array ds) none = refl
children_with_member draft key value (object ms) none = below_put draft key value ms none

-- ---- the values of keys

pub get_with_other : (q key : List ℕ) (value tree : Data) → ¬ (q ≡ key) → get q (with_member key value tree) ≡ get q tree
get_with_other q key value null other = refl
get_with_other q key value (boolean b) other = refl
get_with_other q key value (number n) other = refl
get_with_other q key value (string s) other = refl
get_with_other q key value (array ds) other = refl
get_with_other q key value (object ms) other = get_member-put_other q key value ms other

-- ---- more members of a map of schemas

-- one more member
one_more_at : (keyword key l : List ℕ) (value e : Data) (ms : Members) (o : Ordering) → slice_cmp nat_cmp key l ≡ o → match_ordering o (get_member key ms) (Some e) (get_member key ms) ≡ None
    → (get_member key ms ≡ None → IsMerge Child (each_member keyword (put key value ms)) (each_member keyword ms) ((Key keyword ∷ Key key ∷ [], value) ∷ []))
    → IsMerge Child (each_member keyword (match_ordering o (member key value (member l e ms)) (member l value ms) (member l e (put key value ms)))) (each_member keyword (member l e ms)) ((Key keyword ∷ Key key ∷ [], value) ∷ [])
one_more_at keyword key l value e ms Less is none later =
    from_second (Key keyword ∷ Key key ∷ [], value) (each_member keyword (member l e ms)) (each_member keyword (member l e ms)) [] (all_first (each_member keyword (member l e ms)))
one_more_at keyword key l value e ms Equal is none later = absurd (let n : Some e ≡ None = none in cc)
one_more_at keyword key l value e ms Greater is none later =
    from_first (Key keyword ∷ Key l ∷ [], e) (each_member keyword (put key value ms)) (each_member keyword ms) ((Key keyword ∷ Key key ∷ [], value) ∷ []) (later none)

pub one_more : (keyword key : List ℕ) (value : Data) (ms : Members) → get_member key ms ≡ None
    → IsMerge Child (each_member keyword (put key value ms)) (each_member keyword ms) ((Key keyword ∷ Key key ∷ [], value) ∷ [])
one_more keyword key value no_members none = from_second (Key keyword ∷ Key key ∷ [], value) [] [] [] ended
one_more keyword key value (member l e ms) none = one_more_at keyword key l value e ms (slice_cmp nat_cmp key l) refl none (one_more keyword key value ms)

-- ---- an object whose map of schemas has more members

-- a key below those of members in order is none of them
not_there : (key : List ℕ) (ms : Members) → AllByRecursion (λ k. slice_cmp nat_cmp key k ≡ Less) (keys_of ms) → get_member key ms ≡ None
not_there key no_members less = refl
not_there key (member l e ms) less = ap (λ o. match_ordering o (get_member key ms) (Some e) (get_member key ms)) less.0 ∙ not_there key ms less.1

all_above : (key l : List ℕ) (ks : List (List ℕ)) → slice_cmp nat_cmp key l ≡ Less → AllByRecursion (λ k. slice_cmp nat_cmp l k ≡ Less) ks → AllByRecursion (λ k. slice_cmp nat_cmp key k ≡ Less) ks
all_above key l [] first less = tt
all_above key l (k ∷ ks) first less = (nat_list_cmp_total.trans key l k first less.0, all_above key l ks first less.1)

-- the members that an object has under a key: those of the object there, or none
abbrev pub MembersUnder : List ℕ → Members → Members → Type 0
MembersUnder key ms few = (get_member key ms ≡ None) × (few ≡ no_members) ⊎ (get_member key ms ≡ Some (object few))

no_more : (few : Members) (e : Data) (key l : List ℕ) (ms : Members) (o : Ordering) → get_member key ms ≡ None → MembersUnder key ms few → few ≡ no_members
no_more few e key l ms o none (inl nothing) = nothing.1
no_more few e key l ms o none (inr some) = absurd (let x : None ≡ Some (object few) = sym none ∙ some in cc)

below_map_at : (draft : Draft) (key l : List ℕ) (more few : Members) (e : Data) (ms : Members) (added : List Child) (o : Ordering) → slice_cmp nat_cmp key l ≡ o → HoldsMembers draft key
    → AllByRecursion (λ k. slice_cmp nat_cmp l k ≡ Less) (keys_of ms)
    → (match_ordering o (get_member key ms) (Some e) (get_member key ms) ≡ None) × (few ≡ no_members) ⊎ (match_ordering o (get_member key ms) (Some e) (get_member key ms) ≡ Some (object few))
    → IsMerge Child (each_member key more) (each_member key few) added
    → (MembersUnder key ms few → IsMerge Child (children_below draft (put key (object more) ms)) (children_below draft ms) added)
    → IsMerge Child (children_below draft (match_ordering o (member key (object more) (member l e ms)) (member l (object more) ms) (member l e (put key (object more) ms)))) (children_below draft (member l e ms)) added
below_map_at draft key l more few e ms added Less is holds sorted under merge later =
    let none : few ≡ no_members = no_more few e key l ms Less (not_there key ms (all_above key l (keys_of ms) is sorted)) under in
    let front : IsMerge Child (each_member key more) [] added = subst (λ f. IsMerge Child (each_member key more) (each_member key f) added) none merge in
    subst (λ cs. IsMerge Child (cs ++ children_below draft (member l e ms)) (children_below draft (member l e ms)) added) (sym (holds more))
    (subst (λ a. IsMerge Child (each_member key more ++ children_below draft (member l e ms)) (children_below draft (member l e ms)) a) (append-nil added)
    (merge_append (each_member key more) [] added (children_below draft (member l e ms)) (children_below draft (member l e ms)) [] front (all_first (children_below draft (member l e ms)))))
below_map_at draft key l more few e ms added Equal is holds sorted (inl nothing) merge later = absurd (let x : Some e ≡ None = nothing.0 in cc)
below_map_at draft key l more few e ms added Equal is holds sorted (inr some) merge later =
    let own : e ≡ object few = let x : Some e ≡ Some (object few) = some in cc in
    let same : key ≡ l = equal_keys key l is in
    let here : HoldsMembers draft l = subst (HoldsMembers draft) same holds in
    let front : IsMerge Child (each_member l more) (each_member l few) added = subst (λ k. IsMerge Child (each_member k more) (each_member k few) added) same merge in
    subst (λ v. IsMerge Child (held_children (holding_of draft l) l (object more) ++ children_below draft ms) (held_children (holding_of draft l) l v ++ children_below draft ms) added) (sym own)
    (subst (λ cs. IsMerge Child (cs ++ children_below draft ms) (held_children (holding_of draft l) l (object few) ++ children_below draft ms) added) (sym (here more))
    (subst (λ cs. IsMerge Child (each_member l more ++ children_below draft ms) (cs ++ children_below draft ms) added) (sym (here few))
    (subst (λ a. IsMerge Child (each_member l more ++ children_below draft ms) (each_member l few ++ children_below draft ms) a) (append-nil added)
    (merge_append (each_member l more) (each_member l few) added (children_below draft ms) (children_below draft ms) [] front (all_first (children_below draft ms))))))
below_map_at draft key l more few e ms added Greater is holds sorted under merge later =
    merge_append (held_children (holding_of draft l) l e) (held_children (holding_of draft l) l e) [] (children_below draft (put key (object more) ms)) (children_below draft ms) added
    (all_first (held_children (holding_of draft l) l e)) (later under)

pub below_map : (draft : Draft) (key : List ℕ) (more few : Members) (ms : Members) (added : List Child) → HoldsMembers draft key → IsStrictlySortedBy (slice_cmp nat_cmp) (keys_of ms)
    → MembersUnder key ms few → IsMerge Child (each_member key more) (each_member key few) added → IsMerge Child (children_below draft (put key (object more) ms)) (children_below draft ms) added
unfolding IsStrictlySortedBy
below_map draft key more few no_members added holds sorted (inl nothing) merge =
    let front : IsMerge Child (each_member key more) [] added = subst (λ f. IsMerge Child (each_member key more) (each_member key f) added) nothing.1 merge in
    subst (λ cs. IsMerge Child (cs ++ []) [] added) (sym (holds more)) (subst (λ c. IsMerge Child c [] added) (sym (append-nil (each_member key more))) front)
below_map draft key more few no_members added holds sorted (inr some) merge = absurd (let x : None ≡ Some (object few) = some in cc)
below_map draft key more few (member l e ms) added holds sorted under merge =
    below_map_at draft key l more few e ms added (slice_cmp nat_cmp key l) refl holds sorted.0 under merge
    (λ there. below_map draft key more few ms added holds sorted.1 there merge)
