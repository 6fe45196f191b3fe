-- The places at or below a place are those whose paths go on from its path.
use Rattle.std.proofs.Common.{◌≡◌, ℕ, zero, suc, List, [], ◌∷◌, ◌++◌, flat_map, Result, Ok, Err, ◌⊎◌, inl, inr, ⊎_elim, refl, sym, ap, subst, ◌∙◌, append_assoc, arith}
use Rattle.std.specs.List.{Contains}
use Rattle.std.proofs.lemmas.List.Elements.{All-contains, All-from_recursion, Contains-append_left, Contains-append_right, Contains-append_cases}
use Rattle.serde_json.specs.Data.{Data, depth}
use Rattle.ref_paths.specs.Path.{Part}
use Rattle.ref_draft.specs.UniqueKeys.{HasUniqueKeys}
use Rattle.ref_draft.proofs.Apart.{PartWays, ways_differ, ways_turned, ways_past}
use Rattle.ref_uri.specs.Targets.{Refusal}
use Rattle.ref_definitions.specs.World.{Document, Layer}
use Rattle.ref_definitions.specs.Places.{Place, root, children_of, levels_below, places}
use Rattle.ref_definitions.specs.Wants.{faults_at, faults}
use Rattle.ref_definitions.specs.Agreement.{IsAtOrBelow, itself, below}
use Rattle.ref_definitions.proofs.Below.{path_on}
use Rattle.ref_definitions.proofs.Differ.{IsThere, all_are_there, are_there_with, Parted, parted_with, GoesOn, on_with, longer}
use Rattle.ref_definitions.proofs.Levels.{places_end}
use Rattle.ref_definitions.proofs.Lists.{first_or_later, in_joined, none_in_nothing, in_one_of, at_first}

-- ---- what is below a place of a document is one of its places

level_closed : (n : ℕ) (ps : List Place) (p c : Place) → Contains (ps ++ levels_below n ps) p → Contains (children_of p) c → Contains (ps ++ levels_below (suc n) ps) c
level_closed zero ps p c there child =
    let level = flat_map children_of ps in
    ⊎_elim
    (λ here. Contains-append_right ps (level ++ []) c (Contains-append_left level [] c (in_joined children_of ps p c here child)))
    (λ nowhere. absurd (none_in_nothing p nowhere))
    (Contains-append_cases ps [] p there)
level_closed (suc n) ps p c there child =
    let level = flat_map children_of ps in
    ⊎_elim
    (λ here. Contains-append_right ps (level ++ levels_below (suc n) level) c (Contains-append_left level (levels_below (suc n) level) c (in_joined children_of ps p c here child)))
    (λ later. Contains-append_right ps (level ++ levels_below (suc n) level) c (level_closed n level p c later child))
    (Contains-append_cases ps (level ++ levels_below n level) p there)

child_is_place : (d : Document) (p c : Place) → Contains (places d) p → Contains (children_of p) c → Contains (places d) c
child_is_place d p c there child =
    subst (λ ps. Contains ps c) (places_end d (suc (depth d.tree)) (omega arith)) (level_closed (depth d.tree) (root d ∷ []) p c there child)

pub below_is_place : (d : Document) (q p : Place) → Contains (places d) p → IsAtOrBelow q p → Contains (places d) q
below_is_place d q p there itself = there
below_is_place d q p there (below above child at under) = below_is_place d q child (child_is_place d p child there at) under

-- ---- each place of a document is at or below its root

levels_lead : (n : ℕ) (ps : List Place) (q : Place) → Contains (levels_below n ps) q → (p : Place) × Contains ps p × IsAtOrBelow q p
levels_lead zero ps q there = absurd (none_in_nothing q there)
levels_lead (suc n) ps q there =
    let level = flat_map children_of ps in
    ⊎_elim
    (λ here. let found = in_one_of children_of ps q here in (found.0, found.1, below found.0 q found.2 itself))
    (λ later.
    let above = levels_lead n level q later in
    let found = in_one_of children_of ps above.0 above.1 in
    (found.0, found.1, below found.0 above.0 found.2 above.2))
    (Contains-append_cases level (levels_below n level) q there)

below_root : (d : Document) (q : Place) → Contains (places d) q → IsAtOrBelow q (root d)
below_root d q there =
    ⊎_elim
    (λ same. subst (λ p. IsAtOrBelow q p) (sym same) itself)
    (λ later.
    let above = levels_lead (depth d.tree) (root d ∷ []) q later in
    ⊎_elim
    (λ same. subst (λ p. IsAtOrBelow q p) (sym same) above.2)
    (λ nowhere. absurd (none_in_nothing above.0 nowhere))
    (first_or_later (root d) [] above.0 above.1))
    (first_or_later (root d) (levels_below (depth d.tree) (root d ∷ [])) q there)

-- ---- of two places below one, the path of the second goes on from that of the first

one_or_apart : (ps : List Place) (x y : Place) → Parted ps → Contains ps x → Contains ps y → (x ≡ y) ⊎ PartWays x.path y.path
one_or_apart [] x y parted at there = absurd (none_in_nothing x at)
one_or_apart (p ∷ ps) x y parted at there =
    let behind = λ (z : Place) (later : Contains ps z). All-contains (λ q. PartWays p.path q.path) ps z (All-from_recursion (λ q. PartWays p.path q.path) ps parted.0) later in
    ⊎_elim
    (λ first.
    ⊎_elim
    (λ second. inl (sym first ∙ second))
    (λ later. inr (subst (λ q. PartWays q.path y.path) first (behind y later)))
    (first_or_later p ps y there))
    (λ later.
    ⊎_elim
    (λ second. inr (subst (λ q. PartWays x.path q.path) second (ways_turned p.path x.path (behind x later))))
    (λ also. one_or_apart ps x y parted.1 later also)
    (first_or_later p ps y there))
    (first_or_later p ps x at)

-- paths that go on from paths that part are not one
no_way_back : (a b more rest : List Part) → PartWays a b → ¬ (b ++ rest ≡ a ++ more)
no_way_back a b more rest apart = ways_differ (b ++ rest) (a ++ more) (ways_past (b ++ rest) a more (ways_turned a (b ++ rest) (ways_past a b rest apart)))

child_on : (p c : Place) → Contains (children_of p) c → GoesOn p.path c.path
child_on p c there = All-contains (λ x. GoesOn p.path x.path) (children_of p) c (All-from_recursion (λ x. GoesOn p.path x.path) (children_of p) (on_with p p.base)) there

child_is_there : (tree : Data) (p c : Place) → IsThere tree p → Contains (children_of p) c → IsThere tree c
child_is_there tree p c is_at_path there = All-contains (IsThere tree) (children_of p) c (All-from_recursion (IsThere tree) (children_of p) (are_there_with tree p p.base is_at_path)) there

not_above : (p c r : Place) (path : List Part) → Contains (children_of p) c → IsAtOrBelow r c → ¬ (p.path ≡ r.path ++ path)
not_above p c r path there under is =
    let on = child_on p c there in
    let more = path_on r c under in
    longer p.path on.part (on.rest ++ more.0 ++ path)
    (is ∙ ap (λ x. x ++ path) (more.1 ∙ ap (λ x. x ++ more.0) on.is ∙ append_assoc p.path (on.part ∷ on.rest) more.0)
    ∙ append_assoc p.path (on.part ∷ on.rest ++ more.0) path)

by_path : (tree : Data) (r q : Place) (path : List Part) (p : Place) → IsThere tree p → IsAtOrBelow r p → IsAtOrBelow q p → q.path ≡ r.path ++ path → IsAtOrBelow q r
by_path tree r q path p is_at_path itself under is = under
by_path tree r q path p is_at_path (below above c at over) itself is = absurd (not_above p c r path at over is)
by_path tree r q path p is_at_path (below above c at over) (below above' e there under) is =
    ⊎_elim
    (λ same. by_path tree r q path c (child_is_there tree p c is_at_path at) over (subst (λ x. IsAtOrBelow q x) (sym same) under) is)
    (λ apart.
    let first = path_on r c over in
    let second = path_on q e under in
    absurd (no_way_back c.path e.path (first.0 ++ path) second.0 apart (sym second.1 ∙ is ∙ ap (λ x. x ++ path) first.1 ∙ append_assoc c.path first.0 path)))
    (one_or_apart (children_of p) c e (parted_with p p.base is_at_path.unique) at there)

pub place_is_below : (d : Document) (r q : Place) (path : List Part) → HasUniqueKeys d.tree → Contains (places d) r → Contains (places d) q → q.path ≡ r.path ++ path → IsAtOrBelow q r
place_is_below d r q path unique at there is =
    by_path d.tree r q path (root d) (all_are_there d unique).0 (below_root d r at) (below_root d q there) is

-- ---- without a fault each place has a base

base_or_fault : (p : Place) (base : Result (List ℕ) Refusal) → p.base ≡ base → ((refusal : Refusal) → ¬ (Contains (faults_at p.base p.value) refusal)) → (uri : List ℕ) × (p.base ≡ Ok uri)
base_or_fault p (Ok uri) is none = (uri, is)
base_or_fault p (Err refusal) is none = absurd (none refusal (subst (λ b. Contains (faults_at b p.value) refusal) (sym is) (at_first refusal _)))

pub place_has_base : (layer : Layer) (d : Document) (p : Place) → faults layer ≡ [] → Contains layer d → Contains (places d) p → (uri : List ℕ) × (p.base ≡ Ok uri)
place_has_base layer d p none own there =
    base_or_fault p p.base refl
    (λ refusal fault. none_in_nothing refusal (subst (λ fs. Contains fs refusal) none
    (in_joined (λ e. flat_map (λ x. faults_at x.base x.value) (places e)) layer d refusal own (in_joined (λ x. faults_at x.base x.value) (places d) p refusal there fault))))
