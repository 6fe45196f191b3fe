-- Where each object has each key once, the paths of children part from each other.
use Rattle.std.proofs.Common.{◌≡◌, ℕ, suc, ◌<◌, List, [], ◌∷◌, ◌++◌, Bool, true, false, cond, None, ◌⊎◌, inl, inr, sym, subst, arith}
use Rattle.std.specs.List.{AllByRecursion, filter}
use Rattle.serde_json.specs.Data.{Data, null, boolean, number, string, array, object, Items, no_items, item, Members, no_members, member}
use Rattle.serde_json.specs.Find.{get_member}
use Rattle.ref_paths.specs.Path.{Part, Key, Index}
use Rattle.ref_draft.specs.declared.draft.Draft.{Draft}
use Rattle.ref_draft.specs.declared.spec.Holding.{Holding}
use Rattle.ref_draft.specs.declared.spec.Holding.TheVariants.{Whole, WholeObject, Elements, Members as EachMember, ElementsOrWhole, ObjectMembers, Nothing}
use Rattle.ref_draft.specs.Keywords.{holding_of}
use Rattle.ref_draft.specs.Children.{Child, whole_child, elements_from, each_member, elements, members, held_children, children_below, children, has_object}
use Rattle.ref_draft.specs.UniqueKeys.{KeysDiffer, HasUniqueKeys, MembersHaveUniqueKeys}
use Rattle.ref_draft.proofs.Lists.{all_append, all_filter, all_map}
use Rattle.ref_draft.proofs.Under.{rest_of, BeginsWith, under_held}
use Rattle.ref_draft.proofs.Unique.{absent}

-- two paths part: somewhere they go on by different parts
abbrev pub PartWays : List Part → List Part → Type 0
PartWays [] q = ⊥
PartWays (x ∷ p) [] = ⊥
PartWays (x ∷ p) (y ∷ q) = (¬ (x ≡ y)) ⊎ PartWays p q

pub ways_differ : (p q : List Part) → PartWays p q → ¬ (p ≡ q)
ways_differ [] q apart same = apart
ways_differ (x ∷ p) [] apart same = apart
ways_differ (x ∷ p) (y ∷ q) (inl differ) same = differ (let e : x ≡ y = cc in e)
ways_differ (x ∷ p) (y ∷ q) (inr apart) same = ways_differ p q apart (let e : p ≡ q = cc in e)

pub ways_turned : (p q : List Part) → PartWays p q → PartWays q p
ways_turned [] q apart = absurd apart
ways_turned (x ∷ p) [] apart = apart
ways_turned (x ∷ p) (y ∷ q) (inl differ) = inl (λ same. differ (sym same))
ways_turned (x ∷ p) (y ∷ q) (inr apart) = inr (ways_turned p q apart)

-- however the second goes on
pub ways_past : (p q more : List Part) → PartWays p q → PartWays p (q ++ more)
ways_past [] q more apart = apart
ways_past (x ∷ p) [] more apart = absurd apart
ways_past (x ∷ p) (y ∷ q) more (inl differ) = inl differ
ways_past (x ∷ p) (y ∷ q) more (inr apart) = inr (ways_past p q more apart)

-- after one beginning
pub ways_after : (front p q : List Part) → PartWays p q → PartWays (front ++ p) (front ++ q)
ways_after [] p q apart = apart
ways_after (x ∷ front) p q apart = inr (ways_after front p q apart)

-- each path parts from those after it
abbrev pub AllPart : List Child → Type 0
AllPart [] = Unit {0}
AllPart (c ∷ cs) = AllByRecursion (λ e. PartWays c.0 e.0) cs × AllPart cs

part_append : (xs ys : List Child) → AllPart xs → AllPart ys → AllByRecursion (λ x. AllByRecursion (λ y. PartWays x.0 y.0) ys) xs → AllPart (xs ++ ys)
part_append [] ys p q across = q
part_append (x ∷ xs) ys p q across = (all_append (λ e. PartWays x.0 e.0) xs ys p.0 across.0, part_append xs ys p.1 q across.1)

part_kept : (b : Bool) (x : Child) (xs : List Child) → AllByRecursion (λ e. PartWays x.0 e.0) xs → AllPart xs → AllPart (cond b (x ∷ xs) xs)
part_kept true x xs p q = (p, q)
part_kept false x xs p q = q

part_filter : (test : Child → Bool) (xs : List Child) → AllPart xs → AllPart (filter test xs)
part_filter test [] p = tt
part_filter test (x ∷ xs) p = part_kept (test x) x (filter test xs) (all_filter (λ e. PartWays x.0 e.0) test xs p.0) (part_filter test xs p.1)

-- ---- under one keyword

by_index : (k : List ℕ) (i j : ℕ) (ds : Items) → i < j → AllByRecursion (λ e. PartWays (Key k ∷ Index i ∷ []) e.0) (elements_from k j ds)
by_index k i j no_items children_below = tt
by_index k i j (item d ds) children_below =
    (inr (inl (λ same. let e : i ≡ j = cc in absurd (omega (arith, e, children_below)))), by_index k i (suc j) ds (omega (arith, children_below)))

part_elements : (k : List ℕ) (i : ℕ) (ds : Items) → AllPart (elements_from k i ds)
part_elements k i no_items = tt
part_elements k i (item d ds) = (by_index k i (suc i) ds (omega arith), part_elements k (suc i) ds)

by_key : (k l : List ℕ) (ms : Members) → get_member l ms ≡ None → AllByRecursion (λ e. PartWays (Key k ∷ Key l ∷ []) e.0) (each_member k ms)
by_key k l no_members none = tt
by_key k l (member m d ms) none =
    let apart = absent l m d ms none in
    (inr (inl (λ same. apart.0 (let e : l ≡ m = cc in e))), by_key k l ms apart.1)

part_members : (k : List ℕ) (ms : Members) → KeysDiffer ms → AllPart (each_member k ms)
part_members k no_members differ = tt
part_members k (member l d ms) differ = (by_key k l ms differ.0, part_members k ms differ.1)

part_array : (k : List ℕ) (v : Data) → AllPart (elements k v)
part_array k null = tt
part_array k (boolean b) = tt
part_array k (number x) = tt
part_array k (string s) = tt
part_array k (array ds) = part_elements k 0 ds
part_array k (object ms) = tt

part_array_or_whole : (k : List ℕ) (v : Data) → AllPart (held_children ElementsOrWhole k v)
part_array_or_whole k null = (tt, tt)
part_array_or_whole k (boolean b) = (tt, tt)
part_array_or_whole k (number x) = (tt, tt)
part_array_or_whole k (string s) = (tt, tt)
part_array_or_whole k (array ds) = part_elements k 0 ds
part_array_or_whole k (object ms) = (tt, tt)

part_object : (k : List ℕ) (v : Data) → HasUniqueKeys v → AllPart (members k v)
part_object k null unique = tt
part_object k (boolean b) unique = tt
part_object k (number x) unique = tt
part_object k (string s) unique = tt
part_object k (array ds) unique = tt
part_object k (object ms) unique = part_members k ms unique.0

part_held : (how : Holding) (k : List ℕ) (v : Data) → HasUniqueKeys v → AllPart (held_children how k v)
part_held Whole k v unique = (tt, tt)
part_held WholeObject k v unique = part_filter has_object (whole_child k v) (tt, tt)
part_held Elements k v unique = part_array k v
part_held EachMember k v unique = part_object k v unique
part_held ElementsOrWhole k v unique = part_array_or_whole k v
part_held ObjectMembers k v unique = part_filter has_object (members k v) (part_object k v unique)
part_held Nothing k v unique = tt

-- ---- keyword by keyword

-- a path that begins with another key
abbrev Elsewhere : List ℕ → Child → Type 0
Elsewhere k e = (rest : List Part) → PartWays (Key k ∷ rest) e.0

begins_elsewhere : (k l : List ℕ) → ¬ (k ≡ l) → (e : Child) → BeginsWith l e → Elsewhere k e
begins_elsewhere k l differ e begins rest =
    subst (PartWays (Key k ∷ rest)) (sym begins) (inl (λ same. differ (let f : k ≡ l = cc in f)))

elsewhere : (d : Draft) (k : List ℕ) (ms : Members) → get_member k ms ≡ None → AllByRecursion (Elsewhere k) (children_below d ms)
elsewhere d k no_members none = tt
elsewhere d k (member l v ms) none =
    let apart = absent k l v ms none in
    all_append (Elsewhere k) (held_children (holding_of d l) l v) (children_below d ms)
    (all_map (BeginsWith l) (Elsewhere k) (held_children (holding_of d l) l v) (begins_elsewhere k l apart.0) (under_held (holding_of d l) l v)) (elsewhere d k ms apart.1)

part_below : (d : Draft) (ms : Members) → KeysDiffer ms → MembersHaveUniqueKeys ms → AllPart (children_below d ms)
part_below d no_members differ unique = tt
part_below d (member k v ms) differ unique =
    part_append (held_children (holding_of d k) k v) (children_below d ms) (part_held (holding_of d k) k v unique.0) (part_below d ms differ.1 unique.1)
    (all_map (BeginsWith k) (λ x. AllByRecursion (λ y. PartWays x.0 y.0) (children_below d ms)) (held_children (holding_of d k) k v)
    (λ x begins. all_map (Elsewhere k) (λ y. PartWays x.0 y.0) (children_below d ms) (λ y other. subst (λ p. PartWays p y.0) (sym begins) (other (rest_of x.0))) (elsewhere d k ms differ.0))
    (under_held (holding_of d k) k v))

pub children_part : (d : Draft) (v : Data) → HasUniqueKeys v → AllPart (children d v)
children_part d null unique = tt
children_part d (boolean b) unique = tt
children_part d (number x) unique = tt
children_part d (string s) unique = tt
children_part d (array ds) unique = tt
children_part d (object ms) unique = part_below d ms unique.0 unique.1

-- the path of a child is not empty
abbrev pub HasParts : Child → Type 0
HasParts child = (part : Part) × (rest : List Part) × (child.0 ≡ part ∷ rest)

parts_below : (d : Draft) (ms : Members) → AllByRecursion HasParts (children_below d ms)
parts_below d no_members = tt
parts_below d (member k v ms) =
    all_append HasParts (held_children (holding_of d k) k v) (children_below d ms)
    (all_map (BeginsWith k) HasParts (held_children (holding_of d k) k v) (λ child begins. (Key k, rest_of child.0, begins)) (under_held (holding_of d k) k v)) (parts_below d ms)

pub children_have_parts : (d : Draft) (v : Data) → AllByRecursion HasParts (children d v)
children_have_parts d null = tt
children_have_parts d (boolean b) = tt
children_have_parts d (number x) = tt
children_have_parts d (string s) = tt
children_have_parts d (array ds) = tt
children_have_parts d (object ms) = parts_below d ms
