-- The levels of places end: a child of a place nests less deeply than it.
use Rattle.std.proofs.Common.{◌≡◌, ℕ, zero, suc, ◌<◌, ◌≤◌, List, [], ◌∷◌, ◌++◌, flat_map, map, Result, Ok, Err, refl, ap, ◌∙◌, arith}
use Rattle.std.specs.List.{AllByRecursion}
use Rattle.serde_json.specs.Data.{depth}
use Rattle.ref_paths.specs.Path.{Part}
use Rattle.ref_draft.specs.declared.draft.Draft.{Draft}
use Rattle.ref_draft.specs.Children.{Child, children as value_children, with_draft}
use Rattle.ref_draft.proofs.Depth.{shallower as value_shallower}
use Rattle.ref_draft.proofs.Lists.{all_append}
use Rattle.ref_uri.specs.Targets.{Refusal}
use Rattle.ref_definitions.specs.World.{Document}
use Rattle.ref_definitions.specs.Places.{Place, root, child_place, children_with, children_of, levels, levels_below, places_by, places}

-- each place nests at most n deep
abbrev Within : ℕ → List Place → Type 0
Within n ps = AllByRecursion (λ p. depth p.value ≤ n) ps

-- each place nests less than n deep
abbrev pub NestsLess : ℕ → List Place → Type 0
NestsLess n ps = AllByRecursion (λ p. depth p.value < n) ps

-- children nest less deeply than their place
abbrev pub AreShallower : (Place → List Place) → Type 0
AreShallower children = (p : Place) → NestsLess (depth p.value) (children p)

-- the children of a value that nests at most n + 1 deep
within_children : (n m : ℕ) (cs : List Place) → m ≤ suc n → NestsLess m cs → Within n cs
within_children n m [] small less = tt
within_children n m (c ∷ cs) small less = (omega (arith, small, less.0), within_children n m cs small less.1)

within_level : (children : Place → List Place) → AreShallower children → (n : ℕ) (ps : List Place) → Within (suc n) ps → Within n (flat_map children ps)
within_level children shallower n [] small = tt
within_level children shallower n (p ∷ ps) small =
    all_append (λ q. depth q.value ≤ n) (children p) (flat_map children ps)
    (within_children n (depth p.value) (children p) small.0 (shallower p)) (within_level children shallower n ps small.1)

-- a value that doesn't nest has no children
none_of_children : (m : ℕ) (cs : List Place) → m ≤ 0 → NestsLess m cs → cs ≡ []
none_of_children m [] small less = refl
none_of_children m (c ∷ cs) small less = absurd (omega (arith, small, less.0))

none_of_level : (children : Place → List Place) → AreShallower children → (ps : List Place) → Within 0 ps → flat_map children ps ≡ []
none_of_level children shallower [] small = refl
none_of_level children shallower (p ∷ ps) small =
    ap (λ cs. cs ++ flat_map children ps) (none_of_children (depth p.value) (children p) small.0 (shallower p))
    ∙ none_of_level children shallower ps small.1

pub nothing_below : (children : Place → List Place) (n : ℕ) → levels children n [] ≡ []
nothing_below children zero = refl
nothing_below children (suc n) = nothing_below children n

levels_end : (children : Place → List Place) → AreShallower children → (k n : ℕ) (ps : List Place) → k ≤ n → Within k ps → levels children n ps ≡ levels children k ps
levels_end children shallower zero zero ps more small = refl
levels_end children shallower zero (suc n) ps more small =
    ap (λ level. level ++ levels children n level) (none_of_level children shallower ps small) ∙ nothing_below children n
levels_end children shallower (suc k) zero ps more small = absurd (omega (arith, more))
levels_end children shallower (suc k) (suc n) ps more small =
    ap (λ rest. flat_map children ps ++ rest)
    (levels_end children shallower k n (flat_map children ps) (omega (arith, more)) (within_level children shallower k ps small))

pub places_end_by : (children : Place → List Place) → AreShallower children → (d : Document) (n : ℕ) → depth d.tree ≤ n → root d ∷ levels children n (root d ∷ []) ≡ places_by children d
places_end_by children shallower d n more =
    ap (λ rest. root d ∷ rest) (levels_end children shallower (depth d.tree) n (root d ∷ []) more (omega arith, tt))

-- ---- the children of places

placed_shallower : (n : ℕ) (path : List Part) (base : List ℕ) (draft : Draft) (cs : List Child) → AllByRecursion (λ child. depth child.1 < n) cs → NestsLess n (map (child_place path base) (map (with_draft draft) cs))
placed_shallower n path base draft [] less = tt
placed_shallower n path base draft (c ∷ cs) less = (less.0, placed_shallower n path base draft cs less.1)

pub under_base_shallower : (p : Place) (base : List ℕ) → NestsLess (depth p.value) (children_with (Ok base) p)
under_base_shallower p base =
    placed_shallower (depth p.value) p.path base p.draft (value_children p.draft p.value) (value_shallower p.draft p.value)

with_shallower : (p : Place) (base : Result (List ℕ) Refusal) → NestsLess (depth p.value) (children_with base p)
with_shallower p (Ok base) = under_base_shallower p base
with_shallower p (Err refusal) = tt

pub children_shallower : AreShallower children_of
children_shallower p = with_shallower p p.base

pub places_end : (d : Document) (n : ℕ) → depth d.tree ≤ n → root d ∷ levels_below n (root d ∷ []) ≡ places d
places_end d n more = places_end_by children_of children_shallower d n more
