-- A proper beginning of a child's path leads to an array or to a map of subschemas.
use Rattle.std.proofs.Common.{◌≡◌, ◌≢◌, ℕ, suc, List, [], ◌∷◌, ◌++◌, map, true, false, Option, Some, None, option_and_then, inl, inr, refl, sym, ap, subst, ◌∙◌, true≢false}
use Rattle.std.specs.List.{AllByRecursion}
use Rattle.serde_json.specs.Data.{Data, null, boolean, number, string, array, object, Items, no_items, item, Members, no_members, member}
use Rattle.ref_paths.specs.Path.{Part, Key, Index, child_at, value_at}
use Rattle.ref_draft.specs.declared.draft.Draft.{Draft}
use Rattle.ref_draft.specs.declared.spec.Holding.{Holding}
use Rattle.ref_draft.specs.declared.spec.Holding.TheVariants.{Whole, WholeObject, Elements, Members as EachMember, ElementsOrWhole, ObjectMembers, Nothing}
use Rattle.ref_draft.specs.Keywords.{is_before_2020, is_map_keyword, holding_of}
use Rattle.ref_draft.specs.Children.{Child, AllAreThere, with_draft, whole_child, elements_from, each_member, elements, members, held_children, children_below, children, has_object, is_object, walked_children}
use Rattle.ref_draft.specs.Scan.{is_child_keyword, IsAccepted, SpellsWord}
use Rattle.ref_draft.specs.Beginnings.{is_array, EndsWithin, AllEndWithin}
use Rattle.ref_draft.proofs.Holdings.{Says, says_holding, HoldsItems}
use Rattle.ref_draft.proofs.Scanning.{stops_within}
use Rattle.ref_draft.proofs.Lists.{all_append, all_filter, all_map}

-- since 2020-12 each keyword with a part after it is a child keyword
abbrev IsChildSince : Draft → List ℕ → Type 0
IsChildSince d k = is_before_2020 d ≡ false → is_child_keyword d k ≡ true

-- the forms of a child's path
data Form (d : Draft) : List Part → Type 0 where
  alone : (k : List ℕ) → Form d (Key k ∷ [])
  element : (k : List ℕ) (i : ℕ) → IsChildSince d k → Form d (Key k ∷ Index i ∷ [])
  of_map : (k l : List ℕ) → IsChildSince d k → is_map_keyword d k ≡ true → Form d (Key k ∷ Key l ∷ [])

abbrev AllHaveForm : Draft → List Child → Type 0
AllHaveForm d cs = AllByRecursion (λ child. Form d child.0) cs

each_element : (d : Draft) (k : List ℕ) (i : ℕ) (ds : Items) → IsChildSince d k → AllHaveForm d (elements_from k i ds)
each_element d k i no_items since = tt
each_element d k i (item e ds) since = (element k i since, each_element d k (suc i) ds since)

each_of : (d : Draft) (k : List ℕ) (ms : Members) → IsChildSince d k → is_map_keyword d k ≡ true → AllHaveForm d (each_member k ms)
each_of d k no_members since in_map = tt
each_of d k (member l e ms) since in_map = (of_map k l since in_map, each_of d k ms since in_map)

of_array : (d : Draft) (k : List ℕ) (v : Data) → IsChildSince d k → AllHaveForm d (elements k v)
of_array d k null since = tt
of_array d k (boolean b) since = tt
of_array d k (number x) since = tt
of_array d k (string s) since = tt
of_array d k (array ds) since = each_element d k 0 ds since
of_array d k (object ms) since = tt

of_array_or_whole : (d : Draft) (k : List ℕ) (v : Data) → IsChildSince d k → AllHaveForm d (held_children ElementsOrWhole k v)
of_array_or_whole d k null since = (alone k, tt)
of_array_or_whole d k (boolean b) since = (alone k, tt)
of_array_or_whole d k (number x) since = (alone k, tt)
of_array_or_whole d k (string s) since = (alone k, tt)
of_array_or_whole d k (array ds) since = each_element d k 0 ds since
of_array_or_whole d k (object ms) since = (alone k, tt)

of_object : (d : Draft) (k : List ℕ) (v : Data) → IsChildSince d k → is_map_keyword d k ≡ true → AllHaveForm d (members k v)
of_object d k null since in_map = tt
of_object d k (boolean b) since in_map = tt
of_object d k (number x) since in_map = tt
of_object d k (string s) since in_map = tt
of_object d k (array ds) since in_map = tt
of_object d k (object ms) since in_map = each_of d k ms since in_map

not_since : (d : Draft) (k : List ℕ) → HoldsItems d k → IsChildSince d k
not_since d k held_children after = absurd (true≢false (sym held_children.before ∙ after))

of_held : (d : Draft) (how : Holding) (k : List ℕ) (v : Data) → Says d k how → AllHaveForm d (held_children how k v)
of_held d Whole k v s = (alone k, tt)
of_held d WholeObject k v s = all_filter (λ child. Form d child.0) has_object (whole_child k v) (alone k, tt)
of_held d Elements k v s = of_array d k v (λ after. s)
of_held d EachMember k v s = of_object d k v (λ after. s.child) s.in_map
of_held d ElementsOrWhole k v s = of_array_or_whole d k v (not_since d k s)
of_held d ObjectMembers k v s = all_filter (λ child. Form d child.0) has_object (members k v) (of_object d k v (not_since d k s.items) s.in_map)
of_held d Nothing k v s = tt

of_below : (d : Draft) (ms : Members) → AllHaveForm d (children_below d ms)
of_below d no_members = tt
of_below d (member k v ms) = all_append (λ child. Form d child.0) (held_children (holding_of d k) k v) (children_below d ms) (of_held d (holding_of d k) k v (says_holding d k)) (of_below d ms)

all_have_form : (d : Draft) (value : Data) → AllHaveForm d (children d value)
all_have_form d null = tt
all_have_form d (boolean b) = tt
all_have_form d (number x) = tt
all_have_form d (string s) = tt
all_have_form d (array ds) = tt
all_have_form d (object ms) = of_below d ms

-- ---- what a beginning leads to

through : {X Y : Type 0} (f : X → Option Y) (o : Option X) (y : Y) → option_and_then f o ≡ Some y → (x : X) × (o ≡ Some x) × (f x ≡ Some y)
through f None y is = absurd (cc)
through f (Some x) y is = (x, refl, is)

array_by_index : (v w : Data) (i : ℕ) → option_and_then (λ e. Some e) (child_at v (Index i)) ≡ Some w → is_array v ≡ true
array_by_index null w i is = absurd (cc)
array_by_index (boolean b) w i is = absurd (cc)
array_by_index (number x) w i is = absurd (cc)
array_by_index (string s) w i is = absurd (cc)
array_by_index (array ds) w i is = refl
array_by_index (object ms) w i is = absurd (cc)

object_by_key : (v w : Data) (k : List ℕ) → option_and_then (λ e. Some e) (child_at v (Key k)) ≡ Some w → is_object v ≡ true
object_by_key null w k is = absurd (cc)
object_by_key (boolean b) w k is = absurd (cc)
object_by_key (number x) w k is = absurd (cc)
object_by_key (string s) w k is = absurd (cc)
object_by_key (array ds) w k is = absurd (cc)
object_by_key (object ms) w k is = refl

-- since 2020-12 accepted parts are a word
word_since : (d : Draft) (parts : List Part) (value : Data) → is_before_2020 d ≡ false → IsAccepted d parts value → SpellsWord d parts
word_since d parts value after (inl word) = word
word_since d parts value after (inr items) = absurd (true≢false (sym items.before ∙ after))

-- of a path of two parts there is one such beginning
one_part : (k : List ℕ) (part : Part) (beginning rest : List Part) → Key k ∷ part ∷ [] ≡ beginning ++ rest → beginning ≢ [] → rest ≢ [] → beginning ≡ Key k ∷ []
one_part k part [] rest is some more = absurd (some refl)
one_part k part (x ∷ []) rest is some more = let same : x ≡ Key k = cc in ap (λ p. p ∷ []) same
one_part k part (x ∷ y ∷ beginning) [] is some more = absurd (more refl)
one_part k part (x ∷ y ∷ []) (z ∷ rest) is some more = absurd (cc)
one_part k part (x ∷ y ∷ w ∷ beginning) (z ∷ rest) is some more = absurd (cc)

pub none_of_one : (k : List ℕ) (beginning rest : List Part) → Key k ∷ [] ≡ beginning ++ rest → beginning ≢ [] → rest ≢ [] → ⊥
none_of_one k [] rest is some more = some refl
none_of_one k (x ∷ []) [] is some more = more refl
none_of_one k (x ∷ []) (y ∷ rest) is some more = cc
none_of_one k (x ∷ y ∷ beginning) rest is some more = cc

-- which is a keyword alone
abbrev pub IsKeyAlone : List Part → Type 0
IsKeyAlone path = (beginning rest : List Part) → path ≡ beginning ++ rest → beginning ≢ [] → rest ≢ [] → (k : List ℕ) × (beginning ≡ Key k ∷ [])

key_alone : (d : Draft) (path : List Part) → Form d path → IsKeyAlone path
key_alone d path (alone k) beginning rest is some more = absurd (none_of_one k beginning rest is some more)
key_alone d path (element k i since) beginning rest is some more = (k, one_part k (Index i) beginning rest is some more)
key_alone d path (of_map k l since in_map) beginning rest is some more = (k, one_part k (Key l) beginning rest is some more)

pub begin_with_keys : (d : Draft) (value : Data) → AllByRecursion (λ child. IsKeyAlone child.0) (children d value)
begin_with_keys d value = all_map (λ child. Form d child.0) (λ child. IsKeyAlone child.0) (children d value) (λ child form. key_alone d child.0 form) (all_have_form d value)

ends_at : (d : Draft) (parts : List Part) (value v : Data) (path beginning rest : List Part) → IsAccepted d parts value → Form d path → value_at value path ≡ Some v
    → path ≡ beginning ++ rest → beginning ≢ [] → rest ≢ [] → EndsWithin d parts value beginning
ends_at d parts value v path beginning rest accepted (alone k) is_at_path is some more = absurd (none_of_one k beginning rest is some more)
ends_at d parts value v path beginning rest accepted (element k i since) is_at_path is some more =
    let leads = through (λ e. value_at e (Index i ∷ [])) (child_at value (Key k)) v is_at_path in
    subst (EndsWithin d parts value) (sym (one_part k (Index i) beginning rest is some more))
    (record {
      within = leads.0;
      there = ap (option_and_then (λ e. Some e)) leads.1;
      between = inl (array_by_index leads.0 v i leads.2);
      not_accepted = λ after. stops_within d leads.0 parts k (word_since d parts value after accepted) (since after);
    })
ends_at d parts value v path beginning rest accepted (of_map k l since in_map) is_at_path is some more =
    let leads = through (λ e. value_at e (Key l ∷ [])) (child_at value (Key k)) v is_at_path in
    subst (EndsWithin d parts value) (sym (one_part k (Key l) beginning rest is some more))
    (record {
      within = leads.0;
      there = ap (option_and_then (λ e. Some e)) leads.1;
      between = inr (record { object = object_by_key leads.0 v l leads.2; keyword_of_a_map = in_map });
      not_accepted = λ after. stops_within d leads.0 parts k (word_since d parts value after accepted) (since after);
    })

each : (d : Draft) (parts : List Part) (value : Data) (cs : List Child) → IsAccepted d parts value → AllHaveForm d cs → AllAreThere value (map (with_draft d) cs) → AllEndWithin d parts value cs
each d parts value [] accepted forms are_there = tt
each d parts value (c ∷ cs) accepted forms are_there =
    (λ beginning rest is some more. ends_at d parts value c.1 c.0 beginning rest accepted forms.0 are_there.0 is some more, each d parts value cs accepted forms.1 are_there.1)

pub all_end_within : (d : Draft) (parts : List Part) (value : Data) → IsAccepted d parts value → AllAreThere value (walked_children d value) → AllEndWithin d parts value (children d value)
all_end_within d parts value accepted are_there = each d parts value (children d value) accepted (all_have_form d value) are_there
