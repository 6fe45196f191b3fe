-- The places of a document are listed level by level.
use Rattle.std.proofs.Common.{◌≡◌, ℕ, ◌+◌, ◌<◌, ◌≤◌, List, [], ◌∷◌, ◌++◌, map, take, drop, length, Some, sym, ap, ◌∙◌, subst, append_assoc, arith, length-append}
use Rattle.std.specs.Prelude.{slice_get}
use Rattle.std.proofs.lemmas.Option.{get_or_from_slice_get}
use Rattle.std.proofs.lemmas.List.{take_more, drop_more, drop_all, take_all, take-append-le, drop-append-le, take-append-drop}
use Rattle.ref_definitions.specs.World.{Document}
use Rattle.ref_definitions.specs.Places.{Place, child_place, root}
use Rattle.ref_definitions.specs.Queue.{IsQueueBy}
use Rattle.ref_definitions.proofs.Levels.{AreShallower, NestsLess}
use Rattle.std.specs.List.{AllByRecursion}
use Rattle.serde_json.specs.Data.{depth}
use Rattle.ref_paths.specs.Path.{Part}
use Rattle.ref_draft.specs.declared.draft.Draft.{Draft}
use Rattle.ref_draft.specs.Children.{Child, children}
use Rattle.ref_draft.proofs.Depth.{shallower as value_shallower}
use Rattle.ref_definitions.proofs.Queues.{at_root, step, at_end, beginning}
use Rattle.ref_findings.specs.Places.{nearest_base, with_read_draft, children_near, places_near}
use Rattle.ref_findings.specs.inner.Queue.{IsAt}

children_shallower : (n : ℕ) (d : Draft) (path : List Part) (base : List ℕ) (cs : List Child) → AllByRecursion (λ child. depth child.1 < n) cs
    → NestsLess n (map (child_place path base) (map (with_read_draft d) cs))
children_shallower n d path base [] all = tt
children_shallower n d path base (c ∷ cs) all = (all.0, children_shallower n d path base cs all.1)

near_shallower : AreShallower children_near
near_shallower p = children_shallower (depth p.value) p.draft p.path (nearest_base p) (children p.draft p.value) (value_shallower p.draft p.value)

-- ---- the places as they are listed

pub begins : (d : Document) (queue : List Place) → queue ≡ root d ∷ [] → IsAt d queue 0
begins d queue one = subst (λ l. IsAt d l 0) (sym one) (record { within = omega arith; order = at_root children_near near_shallower d })

head_is : (queue : List Place) (head : ℕ) (q : Place) → head < length queue → slice_get queue head ≡ Some q → drop head queue ≡ q ∷ drop (head + 1) queue
head_is queue head q within here = drop_more queue head q within ∙ ap (λ p. p ∷ drop (head + 1) queue) (get_or_from_slice_get queue head q q here)

pub goes_on : (d : Document) (queue more : List Place) (head : ℕ) (q : Place) → head < length queue → slice_get queue head ≡ Some q → more ≡ children_near q → IsAt d queue head → IsAt d (queue ++ more) (head + 1)
goes_on d queue more head q within here children is =
    let moved = step children_near d (take head queue) (drop (head + 1) queue) q (subst (IsQueueBy children_near d (take head queue)) (head_is queue head q within here) is.order) in
    let front : take (head + 1) (queue ++ more) ≡ take head queue ++ q ∷ [] =
    take-append-le (head + 1) queue more (omega arith) ∙ take_more queue head q within ∙ ap (λ p. take head queue ++ p ∷ []) (get_or_from_slice_get queue head q q here) in
    let rest : drop (head + 1) (queue ++ more) ≡ drop (head + 1) queue ++ children_near q =
    drop-append-le (head + 1) queue more (omega arith) ∙ ap (λ l. drop (head + 1) queue ++ l) children in
    record {
      within = omega (arith, length-append queue more);
      order = subst (λ l. IsQueueBy children_near d l (drop (head + 1) (queue ++ more))) (sym front) (subst (IsQueueBy children_near d (take head queue ++ q ∷ [])) (sym rest) moved);
    }

pub ends : (d : Document) (queue : List Place) (head : ℕ) → length queue ≤ head → IsAt d queue head → queue ≡ places_near d
ends d queue head all is =
    sym (take_all head queue all) ∙ sym (at_end children_near d (take head queue) (subst (IsQueueBy children_near d (take head queue)) (drop_all head queue all) is.order))

pub left_in : (d : Document) (queue : List Place) (head : ℕ) → head < length queue → IsAt d queue head → head < length (places_near d)
left_in d queue head within is =
    let some = beginning children_near d (take head queue) (drop head queue) is.order in
    let all : places_near d ≡ queue ++ some.0 = some.1 ∙ sym (append_assoc (take head queue) (drop head queue) some.0) ∙ ap (λ l. l ++ some.0) (take-append-drop head queue) in
    let long : length (places_near d) ≡ length queue + length some.0 = ap length all ∙ length-append queue some.0 in
    omega (arith, long)
