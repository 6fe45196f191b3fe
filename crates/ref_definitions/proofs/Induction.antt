-- Induction over places: what holds of the root of a document, and goes from a place to its children, holds of all its places.
use Rattle.std.proofs.Common.{ℕ, zero, suc, List, [], ◌∷◌, ◌++◌, flat_map}
use Rattle.std.specs.List.{AllByRecursion, Contains}
use Rattle.std.proofs.lemmas.List.Elements.{Contains-append_left, Contains-append_right}
use Rattle.serde_json.specs.Data.{depth}
use Rattle.ref_draft.proofs.Lists.{all_append}
use Rattle.ref_definitions.specs.World.{Document}
use Rattle.ref_definitions.specs.Places.{Place, root, children_of, levels, levels_below, places}
use Rattle.ref_definitions.proofs.Lists.{all_of, all_joined, each_in}

-- it goes from a place to its children
abbrev pub GoesToChildren : (Place → Type 0) → Type 0
GoesToChildren P = (p : Place) → P p → AllByRecursion P (children_of p)

-- of a level of places, and so of the level below it
pub level_induct : (P : Place → Type 0) → GoesToChildren P → (ps : List Place) → AllByRecursion P ps → AllByRecursion P (flat_map children_of ps)
level_induct P next ps each = all_joined P P children_of ps next each

-- of places, where it goes to the children of those alone that are at or below them
pub levels_induct_in : (P : Place → Type 0) (n : ℕ) (ps : List Place) → ((p : Place) → Contains (ps ++ levels_below n ps) p → P p → AllByRecursion P (children_of p)) → AllByRecursion P ps
    → AllByRecursion P (levels_below n ps)
levels_induct_in P zero ps next each = tt
levels_induct_in P (suc n) ps next each =
    let below = flat_map children_of ps in
    let level =
    all_joined (Contains ps) P children_of ps
    (λ p there. next p (Contains-append_left ps (below ++ levels_below n below) p there) (each_in P ps p each there)) (all_of (Contains ps) ps (λ p there. there)) in
    all_append P below (levels_below n below) level
    (levels_induct_in P n below (λ p there. next p (Contains-append_right ps (below ++ levels_below n below) p there)) level)

-- of places, and so of those n levels below them
pub levels_induct : (P : Place → Type 0) → GoesToChildren P → (n : ℕ) (ps : List Place) → AllByRecursion P ps → AllByRecursion P (levels_below n ps)
levels_induct P next n ps each = levels_induct_in P n ps (λ p there. next p) each

-- of the root, and so of all places, where it goes to the children of the document's places
pub places_induct_in : (P : Place → Type 0) (d : Document) → ((p : Place) → Contains (places d) p → P p → AllByRecursion P (children_of p)) → P (root d) → AllByRecursion P (places d)
places_induct_in P d next first = (first, levels_induct_in P (depth d.tree) (root d ∷ []) next (first, tt))

-- of the root, and so of all places
pub places_induct : (P : Place → Type 0) → GoesToChildren P → (d : Document) → P (root d) → AllByRecursion P (places d)
places_induct P next d first = places_induct_in P d (λ p there. next p) first
