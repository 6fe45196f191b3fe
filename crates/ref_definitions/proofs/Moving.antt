-- The places of a tree that is put below a path.
use Rattle.std.proofs.Common.{◌≡◌, ℕ, zero, suc, List, [], ◌∷◌, ◌++◌, flat_map, map, Result, Ok, Err, refl, sym, ap, ◌∙◌, append_assoc, append-nil}
use Rattle.std.proofs.lemmas.List.{map-append}
use Rattle.ref_paths.specs.Path.{Part}
use Rattle.ref_draft.specs.Children.{Walked, walked_children}
use Rattle.ref_uri.specs.Targets.{Refusal}
use Rattle.ref_definitions.specs.Places.{Place, child_place, children_with, children_of, levels_below}
use Rattle.ref_definitions.specs.Moving.{below_path}

child_moved : (front path : List Part) (base : List ℕ) (c : Walked) → child_place (front ++ path) base c ≡ below_path front (child_place path base c)
child_moved front path base c = ap (λ p. record (child_place path base c) { path = p }) (append_assoc front path c.path)

pub each_moved : (front path : List Part) (base : List ℕ) (cs : List Walked) → map (child_place (front ++ path) base) cs ≡ map (below_path front) (map (child_place path base) cs)
each_moved front path base [] = refl
each_moved front path base (c ∷ cs) =
    ap (λ p. p ∷ map (child_place (front ++ path) base) cs) (child_moved front path base c)
    ∙ ap (λ ps. below_path front (child_place path base c) ∷ ps) (each_moved front path base cs)

moved_with : (front : List Part) (base : Result (List ℕ) Refusal) (p : Place) → children_with base (below_path front p) ≡ map (below_path front) (children_with base p)
moved_with front (Ok base) p = each_moved front p.path base (walked_children p.draft p.value)
moved_with front (Err refusal) p = refl

pub children_moved : (front : List Part) (p : Place) → children_of (below_path front p) ≡ map (below_path front) (children_of p)
children_moved front p = moved_with front p.base p

level_moved : (front : List Part) (ps : List Place) → flat_map children_of (map (below_path front) ps) ≡ map (below_path front) (flat_map children_of ps)
level_moved front [] = refl
level_moved front (p ∷ ps) =
    ap (λ cs. cs ++ flat_map children_of (map (below_path front) ps)) (children_moved front p)
    ∙ ap (λ more. map (below_path front) (children_of p) ++ more) (level_moved front ps)
    ∙ sym (map-append (below_path front) (children_of p) (flat_map children_of ps))

pub levels_moved : (n : ℕ) (front : List Part) (ps : List Place) → levels_below n (map (below_path front) ps) ≡ map (below_path front) (levels_below n ps)
levels_moved zero front ps = refl
levels_moved (suc n) front ps =
    ap (λ level. level ++ levels_below n level) (level_moved front ps)
    ∙ ap (λ more. map (below_path front) (flat_map children_of ps) ++ more) (levels_moved n front (flat_map children_of ps))
    ∙ sym (map-append (below_path front) (flat_map children_of ps) (levels_below n (flat_map children_of ps)))

pub below_moved : (n : ℕ) (front : List Part) (e r : Place) → children_of e ≡ map (below_path front) (children_of r) → levels_below n (e ∷ []) ≡ map (below_path front) (levels_below n (r ∷ []))
below_moved zero front e r alike = refl
below_moved (suc n) front e r alike =
    let level : children_of e ++ [] ≡ map (below_path front) (children_of r ++ []) =
    append-nil (children_of e) ∙ alike ∙ ap (map (below_path front)) (sym (append-nil (children_of r))) in
    ap (λ l. l ++ levels_below n l) level
    ∙ ap (λ more. map (below_path front) (children_of r ++ []) ++ more) (levels_moved n front (children_of r ++ []))
    ∙ sym (map-append (below_path front) (children_of r ++ []) (levels_below n (children_of r ++ [])))
