-- A queue of places goes through them level by level.
use Rattle.std.proofs.Common.{◌≡◌, ℕ, suc, ◌≤◌, List, [], ◌∷◌, ◌++◌, flat_map, refl, sym, ap, ◌∙◌, append_assoc, append-nil, arith}
use Rattle.serde_json.specs.Data.{depth}
use Rattle.ref_definitions.specs.World.{Document}
use Rattle.ref_definitions.specs.Places.{Place, root, levels, places_by}
use Rattle.ref_definitions.specs.Queue.{left_from, IsQueueBy}
use Rattle.ref_definitions.proofs.Levels.{AreShallower, nothing_below, places_end_by}

-- ---- a level that is done gives way to the next

switched : (children : Place → List Place) (m : ℕ) (next : List Place) → left_from children (suc m) [] next ≡ left_from children m next []
switched children m next = ap (λ below. below ++ levels children (suc m) below) (append-nil next)

-- ---- one more place of a level

forward : (children : Place → List Place) (m : ℕ) (q : Place) (level next : List Place) → left_from children m (q ∷ level) next ≡ q ∷ left_from children m level (next ++ children q)
forward children m q level next =
    ap (λ below. q ∷ (level ++ (below ++ levels children m below))) (sym (append_assoc next (children q) (flat_map children level)))

visited_more : (q : Place) (visited rest : List Place) → visited ++ (q ∷ rest) ≡ (visited ++ q ∷ []) ++ rest
visited_more q visited rest = sym (append_assoc visited (q ∷ []) rest)

-- ---- the queue

pub at_root : (children : Place → List Place) → AreShallower children → (d : Document) → IsQueueBy children d [] (root d ∷ [])
at_root children shallower d = record {
  level = root d ∷ [];
  next = [];
  split = refl;
  whole = λ m large. sym (places_end_by children shallower d (suc m) (omega arith));
}

in_level : (children : Place → List Place) (d : Document) (visited waiting : List Place) (q : Place) (level next : List Place) → q ∷ waiting ≡ (q ∷ level) ++ next
    → ((m : ℕ) → depth d.tree ≤ m → places_by children d ≡ visited ++ left_from children m (q ∷ level) next) → IsQueueBy children d (visited ++ q ∷ []) (waiting ++ children q)
in_level children d visited waiting q level next split whole =
    let rest : waiting ≡ level ++ next = cc in
    record {
      level = level;
      next = next ++ children q;
      split = ap (λ ps. ps ++ children q) rest ∙ append_assoc level next (children q);
      whole = λ m large. whole m large ∙ ap (λ ps. visited ++ ps) (forward children m q level next) ∙ visited_more q visited (left_from children m level (next ++ children q));
    }

after_level : (children : Place → List Place) (d : Document) (visited waiting : List Place) (q : Place) (level next : List Place) → q ∷ waiting ≡ level ++ next
    → ((m : ℕ) → depth d.tree ≤ m → places_by children d ≡ visited ++ left_from children m level next) → IsQueueBy children d (visited ++ q ∷ []) (waiting ++ children q)
after_level children d visited waiting q [] next split whole =
    in_level children d visited waiting q waiting [] (sym (append-nil (q ∷ waiting)))
    (λ m large. whole (suc m) (omega arith) ∙ ap (λ ps. visited ++ ps) (switched children m next ∙ ap (λ ps. left_from children m ps []) (sym split)))
after_level children d visited waiting q (p ∷ level) next split whole =
    let same : p ≡ q = cc in
    in_level children d visited waiting q level next (split ∙ ap (λ p. p ∷ (level ++ next)) same)
    (λ m large. whole m large ∙ ap (λ p. visited ++ left_from children m (p ∷ level) next) same)

pub step : (children : Place → List Place) (d : Document) (visited waiting : List Place) (q : Place) → IsQueueBy children d visited (q ∷ waiting) → IsQueueBy children d (visited ++ q ∷ []) (waiting ++ children q)
step children d visited waiting q is = after_level children d visited waiting q is.level is.next is.split is.whole

ended : (children : Place → List Place) (d : Document) (visited level next : List Place) → [] ≡ level ++ next → ((m : ℕ) → depth d.tree ≤ m → places_by children d ≡ visited ++ left_from children m level next) → places_by children d ≡ visited
ended children d visited [] [] split whole =
    whole (depth d.tree) (omega arith) ∙ ap (λ ps. visited ++ ps) (nothing_below children (depth d.tree)) ∙ append-nil visited
ended children d visited [] (p ∷ next) split whole = cc
ended children d visited (p ∷ level) next split whole = cc

-- where none waits, all places were visited
pub at_end : (children : Place → List Place) (d : Document) (visited : List Place) → IsQueueBy children d visited [] → places_by children d ≡ visited
at_end children d visited is = ended children d visited is.level is.next is.split is.whole

-- those that were visited and those that wait are a beginning of the places
pub beginning : (children : Place → List Place) (d : Document) (visited waiting : List Place) → IsQueueBy children d visited waiting → (rest : List Place) × (places_by children d ≡ visited ++ (waiting ++ rest))
beginning children d visited waiting is =
    let below = flat_map children is.level ++ levels children (depth d.tree) (is.next ++ flat_map children is.level) in (
      below,
      is.whole (depth d.tree) (omega arith) ∙ ap (λ ps. visited ++ ps)
          (ap (λ ps. is.level ++ ps) (append_assoc is.next (flat_map children is.level) (levels children (depth d.tree) (is.next ++ flat_map children is.level)))
          ∙ sym (append_assoc is.level is.next below) ∙ ap (λ ps. ps ++ below) (sym is.split)),
    )
