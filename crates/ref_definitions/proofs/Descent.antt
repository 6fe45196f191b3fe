-- Each place but the root is a child of one before it.
use Rattle.std.proofs.Common.{ℕ, zero, suc, List, [], ◌∷◌, ◌++◌, flat_map, refl, sym, subst, append_assoc, arith}
use Rattle.std.specs.List.{Contains, AllByRecursion}
use Rattle.std.proofs.lemmas.List.{append-nil}
use Rattle.std.proofs.lemmas.List.Elements.{Contains-append_left, Contains-append_right}
use Rattle.ref_draft.proofs.Lists.{all_append}
use Rattle.ref_definitions.specs.World.{Document}
use Rattle.ref_definitions.specs.Places.{Place, root, children_of, levels_below}
use Rattle.ref_definitions.specs.Descent.{IsChildOfOne, AreChildren}
use Rattle.ref_definitions.proofs.Lists.{all_of}

by_parent : (before : List Place) (p : Place) (cs : List Place) → Contains before p → AllByRecursion (Contains (children_of p)) cs → AllByRecursion (IsChildOfOne before) cs
by_parent before p [] there each = tt
by_parent before p (c ∷ cs) there each = (record { parent = p; comes_before = there; child = each.0 }, by_parent before p cs there each.1)

by_level : (before ps : List Place) → AllByRecursion (Contains before) ps → AllByRecursion (IsChildOfOne before) (flat_map children_of ps)
by_level before [] there = tt
by_level before (p ∷ ps) there =
    all_append (IsChildOfOne before) (children_of p) (flat_map children_of ps)
    (by_parent before p (children_of p) there.0 (all_of (Contains (children_of p)) (children_of p) (λ x t. t))) (by_level before ps there.1)

later : (before more ps : List Place) → AllByRecursion (IsChildOfOne before) ps → AllByRecursion (IsChildOfOne (before ++ more)) ps
later before more [] each = tt
later before more (p ∷ ps) each =
    (record { parent = each.0.parent; comes_before = Contains-append_left before more each.0.parent each.0.comes_before; child = each.0.child }, later before more ps each.1)

are_children : (before ps : List Place) → AllByRecursion (IsChildOfOne before) ps → AreChildren before ps
are_children before [] each = tt
are_children before (p ∷ ps) each = (each.0, are_children (before ++ p ∷ []) ps (later before (p ∷ []) ps each.1))

joined : (before ps qs : List Place) → AreChildren before ps → AreChildren (before ++ ps) qs → AreChildren before (ps ++ qs)
joined before [] qs first second = subst (λ front. AreChildren front qs) (append-nil before) second
joined before (p ∷ ps) qs first second =
    (first.0, joined (before ++ p ∷ []) ps qs first.1 (subst (λ front. AreChildren front qs) (sym (append_assoc before (p ∷ []) ps)) second))

descend : (n : ℕ) (before ps : List Place) → AllByRecursion (Contains before) ps → AreChildren before (levels_below n ps)
descend zero before ps there = tt
descend (suc n) before ps there =
    let cs = flat_map children_of ps in
    joined before cs (levels_below n cs) (are_children before cs (by_level before ps there))
    (descend n (before ++ cs) cs (all_of (Contains (before ++ cs)) cs (λ x t. Contains-append_right before cs x t)))

pub places_descend : (d : Document) (n : ℕ) → AreChildren (root d ∷ []) (levels_below n (root d ∷ []))
places_descend d n = descend n (root d ∷ []) (root d ∷ []) ((0, omega arith, refl), tt)
