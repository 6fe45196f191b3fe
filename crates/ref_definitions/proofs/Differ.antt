-- Where each object of a document has each key once, its places are at their paths, and their paths differ.
use Rattle.std.proofs.Common.{◌≡◌, ℕ, zero, suc, ◌<◌, List, [], ◌∷◌, ◌++◌, length, get_or, flat_map, map, Some, Result, Ok, Err, ◌⊎◌, inl, inr, option_and_then, refl, sym, ap, subst, ◌∙◌, append_assoc, arith}
use Rattle.std.specs.List.{AllByRecursion, AllPairs}
use Rattle.std.proofs.lemmas.List.{append-nil}
use Rattle.serde_json.specs.Data.{Data, depth}
use Rattle.ref_paths.specs.Path.{Part, value_at}
use Rattle.ref_draft.specs.declared.draft.Draft.{Draft}
use Rattle.ref_draft.specs.Children.{Child, children, with_draft, AllAreThere}
use Rattle.ref_draft.specs.UniqueKeys.{HasUniqueKeys}
use Rattle.ref_draft.proofs.Lists.{all_append, all_map}
use Rattle.ref_draft.proofs.Unique.{children_are_there, unique_children}
use Rattle.ref_draft.proofs.Apart.{PartWays, ways_differ, ways_turned, ways_past, ways_after, AllPart, children_part, HasParts, children_have_parts}
use Rattle.ref_uri.specs.Targets.{Refusal}
use Rattle.ref_definitions.specs.World.{Document}
use Rattle.ref_definitions.specs.Places.{Place, root, child_place, children_with, children_of, levels_below, places}
use Rattle.ref_definitions.specs.Agreement.{ChildrenAreThere}
use Rattle.ref_definitions.proofs.Changes.{value_at-append}
use Rattle.ref_definitions.proofs.Lists.{each_in}
use Rattle.ref_definitions.proofs.Induction.{level_induct, places_induct}

-- ---- values at paths

-- a place is in a tree, and below it objects have each key once
pub record IsThere (tree : Data) (p : Place) : Type 0 where
  pub there : value_at tree p.path ≡ Some p.value
  pub unique : HasUniqueKeys p.value

are_there_children : (tree : Data) (path : List Part) (value : Data) (base : List ℕ) (draft : Draft) (cs : List Child) → value_at tree path ≡ Some value
    → AllAreThere value (map (with_draft draft) cs) → AllByRecursion (λ child. HasUniqueKeys child.1) cs → AllByRecursion (IsThere tree) (map (child_place path base) (map (with_draft draft) cs))
are_there_children tree path value base draft [] there are_there unique = tt
are_there_children tree path value base draft (c ∷ cs) there are_there unique = (
  record { there = value_at-append tree path c.0 ∙ ap (option_and_then (λ e. value_at e c.0)) there ∙ are_there.0; unique = unique.0 },
  are_there_children tree path value base draft cs there are_there.1 unique.1,
)

pub are_there_with : (tree : Data) (p : Place) (base : Result (List ℕ) Refusal) → IsThere tree p → AllByRecursion (IsThere tree) (children_with base p)
are_there_with tree p (Ok base) is_at_path =
    are_there_children tree p.path p.value base p.draft (children p.draft p.value) is_at_path.there (children_are_there p.draft p.value is_at_path.unique) (unique_children p.draft p.value is_at_path.unique)
are_there_with tree p (Err refusal) is_at_path = tt

are_there_level : (tree : Data) (ps : List Place) → AllByRecursion (IsThere tree) ps → AllByRecursion (IsThere tree) (flat_map children_of ps)
are_there_level tree ps are_there = level_induct (IsThere tree) (λ p is_at_path. are_there_with tree p p.base is_at_path) ps are_there

pub all_are_there : (d : Document) → HasUniqueKeys d.tree → AllByRecursion (IsThere d.tree) (places d)
all_are_there d unique = places_induct (IsThere d.tree) (λ p is_at_path. are_there_with d.tree p p.base is_at_path) d (record { there = refl; unique = unique })

pub places_are_there : (d : Document) → HasUniqueKeys d.tree → AllByRecursion (λ p. value_at d.tree p.path ≡ Some p.value) (places d)
places_are_there d unique = all_map (IsThere d.tree) (λ p. value_at d.tree p.path ≡ Some p.value) (places d) (λ p is_at_path. is_at_path.there) (all_are_there d unique)

pub children_of_places_are_there : (d : Document) → HasUniqueKeys d.tree → ChildrenAreThere d
children_of_places_are_there d unique p there =
    let is_at_path = each_in (IsThere d.tree) (places d) p (all_are_there d unique) there in
    children_are_there p.draft p.value is_at_path.unique

-- ---- paths of one level

-- the second path goes on from the first
pub record GoesOn (p q : List Part) : Type 0 where
  pub part : Part
  pub rest : List Part
  pub is : q ≡ p ++ part ∷ rest

goes_on_twice : (p q r : List Part) → GoesOn p q → GoesOn q r → GoesOn p r
goes_on_twice p q r first second =
    record {
      part = first.part;
      rest = first.rest ++ second.part ∷ second.rest;
      is = second.is ∙ ap (λ s. s ++ second.part ∷ second.rest) first.is ∙ append_assoc p (first.part ∷ first.rest) (second.part ∷ second.rest);
    }

pub longer : (p : List Part) (part : Part) (rest : List Part) → ¬ (p ≡ p ++ part ∷ rest)
longer [] part rest same = cc
longer (x ∷ p) part rest same = longer p part rest (let e : p ≡ p ++ part ∷ rest = cc in e)

goes_on_differs : (p q : List Part) → GoesOn p q → ¬ (p ≡ q)
goes_on_differs p q on same = longer p on.part on.rest (same ∙ on.is)

-- each path parts from those after it
abbrev pub Parted : List Place → Type 0
Parted [] = Unit {0}
Parted (p ∷ ps) = AllByRecursion (λ q. PartWays p.path q.path) ps × Parted ps

parted_append : (xs ys : List Place) → Parted xs → Parted ys → AllByRecursion (λ x. AllByRecursion (λ y. PartWays x.path y.path) ys) xs → Parted (xs ++ ys)
parted_append [] ys p q across = q
parted_append (x ∷ xs) ys p q across = (all_append (λ y. PartWays x.path y.path) xs ys p.0 across.0, parted_append xs ys p.1 q across.1)

-- of one place
parted_from : (path : List Part) (base : List ℕ) (draft : Draft) (c : Child) (cs : List Child) → AllByRecursion (λ e. PartWays c.0 e.0) cs
    → AllByRecursion (λ q. PartWays (path ++ c.0) q.path) (map (child_place path base) (map (with_draft draft) cs))
parted_from path base draft c [] part = tt
parted_from path base draft c (e ∷ cs) part = (ways_after path c.0 e.0 part.0, parted_from path base draft c cs part.1)

parted_children : (path : List Part) (base : List ℕ) (draft : Draft) (cs : List Child) → AllPart cs → Parted (map (child_place path base) (map (with_draft draft) cs))
parted_children path base draft [] part = tt
parted_children path base draft (c ∷ cs) part = (parted_from path base draft c cs part.0, parted_children path base draft cs part.1)

pub parted_with : (p : Place) (base : Result (List ℕ) Refusal) → HasUniqueKeys p.value → Parted (children_with base p)
parted_with p (Ok base) unique = parted_children p.path base p.draft (children p.draft p.value) (children_part p.draft p.value unique)
parted_with p (Err refusal) unique = tt

on_children : (path : List Part) (base : List ℕ) (draft : Draft) (cs : List Child) → AllByRecursion HasParts cs → AllByRecursion (λ q. GoesOn path q.path) (map (child_place path base) (map (with_draft draft) cs))
on_children path base draft [] parts = tt
on_children path base draft (c ∷ cs) parts =
    (record { part = parts.0.0; rest = parts.0.1; is = ap (λ r. path ++ r) parts.0.2 }, on_children path base draft cs parts.1)

pub on_with : (p : Place) (base : Result (List ℕ) Refusal) → AllByRecursion (λ q. GoesOn p.path q.path) (children_with base p)
on_with p (Ok base) = on_children p.path base p.draft (children p.draft p.value) (children_have_parts p.draft p.value)
on_with p (Err refusal) = tt

-- a path that parts from a place's parts from those that go on from it
parts_from_on : (a : List Part) (p : Place) (q : Place) → PartWays a p.path → GoesOn p.path q.path → PartWays a q.path
parts_from_on a p q part on = subst (PartWays a) (sym on.is) (ways_past a p.path (on.part ∷ on.rest) part)

parts_from_level : (a : List Part) (ps : List Place) → AllByRecursion (λ p. PartWays a p.path) ps → AllByRecursion (λ q. PartWays a q.path) (flat_map children_of ps)
parts_from_level a [] part = tt
parts_from_level a (p ∷ ps) part =
    all_append (λ q. PartWays a q.path) (children_of p) (flat_map children_of ps)
    (all_map (λ q. GoesOn p.path q.path) (λ q. PartWays a q.path) (children_of p) (λ q on. parts_from_on a p q part.0 on) (on_with p p.base)) (parts_from_level a ps part.1)

parted_level : (tree : Data) (ps : List Place) → AllByRecursion (IsThere tree) ps → Parted ps → Parted (flat_map children_of ps)
parted_level tree [] are_there part = tt
parted_level tree (p ∷ ps) are_there part =
    let next = flat_map children_of ps in
    parted_append (children_of p) next (parted_with p p.base are_there.0.unique) (parted_level tree ps are_there.1 part.1)
    (all_map (λ q. GoesOn p.path q.path) (λ x. AllByRecursion (λ y. PartWays x.path y.path) next) (children_of p)
    (λ x on. all_map (λ y. PartWays p.path y.path) (λ y. PartWays x.path y.path) next
    (λ y part_from. ways_turned y.path x.path (parts_from_on y.path p x (ways_turned p.path y.path part_from) on)) (parts_from_level p.path ps part.0)) (on_with p p.base))

-- ---- paths of levels

-- a path goes on from that of one of these places
abbrev Below : List Place → Place → Type 0
Below [] q = ⊥
Below (p ∷ ps) q = GoesOn p.path q.path ⊎ Below ps q

below_level : (ps : List Place) → AllByRecursion (Below ps) (flat_map children_of ps)
below_level [] = tt
below_level (p ∷ ps) =
    all_append (Below (p ∷ ps)) (children_of p) (flat_map children_of ps)
    (all_map (λ q. GoesOn p.path q.path) (Below (p ∷ ps)) (children_of p) (λ q on. inl on) (on_with p p.base))
    (all_map (Below ps) (Below (p ∷ ps)) (flat_map children_of ps) (λ q on. inr on) (below_level ps))

below_on : (ps : List Place) (c q : Place) → Below ps c → GoesOn c.path q.path → Below ps q
below_on [] c q on more = absurd on
below_on (p ∷ ps) c q (inl on) more = inl (goes_on_twice p.path c.path q.path on more)
below_on (p ∷ ps) c q (inr on) more = inr (below_on ps c q on more)

below_twice : (ps cs : List Place) (q : Place) → AllByRecursion (Below ps) cs → Below cs q → Below ps q
below_twice ps [] q all on = absurd on
below_twice ps (c ∷ cs) q all (inl on) = below_on ps c q all.0 on
below_twice ps (c ∷ cs) q all (inr on) = below_twice ps cs q all.1 on

all_below : (n : ℕ) (ps : List Place) → AllByRecursion (Below ps) (levels_below n ps)
all_below zero ps = tt
all_below (suc n) ps =
    let cs = flat_map children_of ps in
    all_append (Below ps) cs (levels_below n cs) (below_level ps) (all_map (Below cs) (Below ps) (levels_below n cs) (λ q on. below_twice ps cs q (below_level ps) on) (all_below n cs))

parts_from_below : (a : List Part) (ps : List Place) (q : Place) → AllByRecursion (λ p. PartWays a p.path) ps → Below ps q → PartWays a q.path
parts_from_below a [] q part on = absurd on
parts_from_below a (p ∷ ps) q part (inl on) = parts_from_on a p q part.0 on
parts_from_below a (p ∷ ps) q part (inr on) = parts_from_below a ps q part.1 on

-- what is below a level has none of its paths
none_of_level : (ps : List Place) (q : Place) → Parted ps → Below ps q → AllByRecursion (λ p. ¬ (p.path ≡ q.path)) ps
none_of_level [] q part on = tt
none_of_level (p ∷ ps) q part (inl on) = (
  goes_on_differs p.path q.path on,
  all_map (λ r. PartWays p.path r.path) (λ r. ¬ (r.path ≡ q.path)) ps
      (λ r apart. ways_differ r.path q.path (parts_from_on r.path p q (ways_turned p.path r.path apart) on)) part.0,
)
none_of_level (p ∷ ps) q part (inr on) =
    (ways_differ p.path q.path (parts_from_below p.path ps q part.0 on), none_of_level ps q part.1 on)

-- no path is there twice
abbrev AllDiffer : List Place → Type 0
AllDiffer [] = Unit {0}
AllDiffer (p ∷ ps) = AllByRecursion (λ q. ¬ (p.path ≡ q.path)) ps × AllDiffer ps

differ_level : (ps : List Place) → Parted ps → AllDiffer ps
differ_level [] part = tt
differ_level (p ∷ ps) part = (all_map (λ q. PartWays p.path q.path) (λ q. ¬ (p.path ≡ q.path)) ps (λ q apart. ways_differ p.path q.path apart) part.0, differ_level ps part.1)

-- of each of these, that it differs from a first one
from_first : (ps qs : List Place) → AllByRecursion (λ q. AllByRecursion (λ p. ¬ (p.path ≡ q.path)) ps) qs → AllDiffer ps → AllDiffer qs → AllDiffer (ps ++ qs)
from_first [] qs across first second = second
from_first (p ∷ ps) qs across first second = (
  all_append (λ q. ¬ (p.path ≡ q.path)) ps qs first.0 (all_map (λ q. AllByRecursion (λ r. ¬ (r.path ≡ q.path)) (p ∷ ps)) (λ q. ¬ (p.path ≡ q.path)) qs (λ q all. all.0) across),
  from_first ps qs (all_map (λ q. AllByRecursion (λ r. ¬ (r.path ≡ q.path)) (p ∷ ps)) (λ q. AllByRecursion (λ r. ¬ (r.path ≡ q.path)) ps) qs (λ q all. all.1) across) first.1 second,
)

differ_below : (tree : Data) (n : ℕ) (ps : List Place) → AllByRecursion (IsThere tree) ps → Parted ps → AllDiffer (ps ++ levels_below n ps)
differ_below tree zero ps are_there part = subst AllDiffer (sym (append-nil ps)) (differ_level ps part)
differ_below tree (suc n) ps are_there part =
    let cs = flat_map children_of ps in
    from_first ps (cs ++ levels_below n cs)
    (all_map (Below ps) (λ q. AllByRecursion (λ p. ¬ (p.path ≡ q.path)) ps) (cs ++ levels_below n cs) (λ q on. none_of_level ps q part on) (all_below (suc n) ps))
    (differ_level ps part) (differ_below tree n cs (are_there_level tree ps are_there) (parted_level tree ps are_there part))

-- ---- as pairs of a list

at_place : (path : List Part) (ps : List Place) → AllByRecursion (λ q. ¬ (path ≡ q.path)) ps → (k : ℕ) (e : List Part) → k < length (map (λ (q : Place). q.path) ps) → ¬ (path ≡ get_or (map (λ (q : Place). q.path) ps) k e)
at_place path [] all k e within = absurd (omega (arith, within))
at_place path (p ∷ ps) all zero e within = all.0
at_place path (p ∷ ps) all (suc k) e within = at_place path ps all.1 k e (omega (arith, within))

pairs_differ : (ps : List Place) → AllDiffer ps → AllPairs (λ p q. ¬ (p ≡ q)) (map (λ (q : Place). q.path) ps)
pairs_differ [] differ i j e less within = absurd (omega (arith, within))
pairs_differ (p ∷ ps) differ zero zero e less within = absurd (omega (arith, less))
pairs_differ (p ∷ ps) differ zero (suc j) e less within = at_place p.path ps differ.0 j e (omega (arith, within))
pairs_differ (p ∷ ps) differ (suc i) zero e less within = absurd (omega (arith, less))
pairs_differ (p ∷ ps) differ (suc i) (suc j) e less within = pairs_differ ps differ.1 i j e (omega (arith, less)) (omega (arith, within))

pub paths_differ : (d : Document) → HasUniqueKeys d.tree → AllPairs (λ p q. ¬ (p ≡ q)) (map (λ p. p.path) (places d))
paths_differ d unique =
    pairs_differ (places d) (differ_below d.tree (depth d.tree) (root d ∷ []) (record { there = refl; unique = unique }, tt) (tt, tt))
