-- The places of documents, listed one by one.
use Rattle.std.proofs.Common.{◌≡◌, ℕ, ◌+◌, ◌<◌, ◌≤◌, List, [], ◌∷◌, ◌++◌, map, take, drop, length, Some, Result, Ok, Err, OnOk, refl, sym, ap, ◌∙◌, subst, append_assoc, append-nil, arith, length-append}
use Rattle.std.specs.Prelude.{slice_get}
use Rattle.std.specs.List.{Contains}
use Rattle.std.proofs.lemmas.List.{drop_all, map-append}
use Rattle.std.proofs.lemmas.List.Elements.{Contains-append_right}
use Rattle.ref_definitions.specs.World.{Document}
use Rattle.ref_definitions.specs.Places.{root, children_of, places}
use Rattle.ref_definitions.specs.Queue.{IsQueueBy}
use Rattle.ref_definitions.specs.Listing.{Listed, listed_place}
use Rattle.ref_definitions.proofs.Levels.{children_shallower}
use Rattle.ref_definitions.proofs.Queues.{at_root, step, at_end, beginning}
use Rattle.ref_index.specs.declared.queue.Visit.{Visit}
use Rattle.ref_index.specs.Visit.{place_of}
use Rattle.ref_index.specs.inner.Queue.{IsListedTo}
use Rattle.ref_index.proofs.Walking.{head_is, visited_is, waiting_is}

pub on_ok : {A E P Q : Type 0} (r : Result A E) → (P → Q) → OnOk r P → OnOk r Q
on_ok (Ok x) then is = then is
on_ok (Err e) then is = tt

-- ---- the place at the head is one of the document's

pub at_head : (d : Document) (queue : List Visit) (head : ℕ) (v : Visit) → head < length queue → slice_get queue head ≡ Some v → IsQueueBy children_of d (map place_of (take head queue)) (map place_of (drop head queue))
    → Contains (places d) (place_of v)
at_head d queue head v within here order =
    let waiting = map place_of (drop (head + 1) queue) in
    let some = beginning children_of d (map place_of (take head queue)) (place_of v ∷ waiting) (subst (IsQueueBy children_of d (map place_of (take head queue))) (head_is queue head v within here) order) in
    let first : Contains (place_of v ∷ (waiting ++ some.0)) (place_of v) = (0, omega arith, refl) in
    subst (λ ps. Contains ps (place_of v)) (sym some.1) (Contains-append_right (map place_of (take head queue)) (place_of v ∷ (waiting ++ some.0)) (place_of v) first)

-- ---- one place after another

pub listing_begins : (d : Document) (number : ℕ) (before : List Listed) (queue : List Visit) (v : Visit) → queue ≡ v ∷ [] → place_of v ≡ root d → IsListedTo d number before before queue 0
listing_begins d number before queue v one is =
    let at_first : IsListedTo d number before before (v ∷ []) 0 = record {
      within = omega arith;
      order = subst (λ p. IsQueueBy children_of d [] (p ∷ [])) (sym is) (at_root children_of children_shallower d);
      list = sym (append-nil before);
    } in
    subst (λ l. IsListedTo d number before before l 0) (sym one) at_first

pub listing_goes_on : (d : Document) (number : ℕ) (before now after : List Listed) (queue grown more : List Visit) (head : ℕ) (v : Visit) → head < length queue → slice_get queue head ≡ Some v
    → IsListedTo d number before now queue head → after ≡ now ++ listed_place number (place_of v) ∷ [] → grown ≡ queue ++ more → map place_of more ≡ children_of (place_of v)
    → IsListedTo d number before after grown (head + 1)
listing_goes_on d number before now after queue grown more head v within here is one longer children =
    let vs = queue ++ more in
    let visited = map place_of (take head queue) in
    let front = visited_is queue more head v within here in
    let moved = step children_of d visited (map place_of (drop (head + 1) queue)) (place_of v) (subst (IsQueueBy children_of d visited) (head_is queue head v within here) is.order) in
    let rest : map place_of (drop (head + 1) queue) ++ children_of (place_of v) ≡ map place_of (drop (head + 1) vs) =
    sym (waiting_is queue more head within ∙ ap (λ l. map place_of (drop (head + 1) queue) ++ l) children) in
    let result : IsListedTo d number before after vs (head + 1) = record {
      within = omega (arith, length-append queue more);
      order = subst (λ l. IsQueueBy children_of d l (map place_of (drop (head + 1) vs))) (sym front) (subst (IsQueueBy children_of d (visited ++ place_of v ∷ [])) rest moved);
      list = one ∙ ap (λ l. l ++ listed_place number (place_of v) ∷ []) is.list ∙ append_assoc before (map (listed_place number) visited) (listed_place number (place_of v) ∷ [])
          ∙ ap (λ l. before ++ l) (sym (map-append (listed_place number) visited (place_of v ∷ []))) ∙ ap (λ l. before ++ map (listed_place number) l) (sym front);
    } in
    subst (λ l. IsListedTo d number before after l (head + 1)) (sym longer) result

pub listing_ends : (d : Document) (number : ℕ) (before after : List Listed) (queue : List Visit) (head : ℕ) → length queue ≤ head → IsListedTo d number before after queue head
    → after ≡ before ++ map (listed_place number) (places d)
listing_ends d number before after queue head all is =
    is.list ∙ ap (λ ps. before ++ map (listed_place number) ps)
    (sym (at_end children_of d (map place_of (take head queue)) (subst (λ l. IsQueueBy children_of d (map place_of (take head queue)) (map place_of l)) (drop_all head queue all) is.order)))
