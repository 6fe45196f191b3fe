-- The walk, place by place, over plain values.
use Rattle.std.proofs.Common.{◌≡◌, ℕ, zero, suc, ◌+◌, ◌<◌, ◌≤◌, List, [], ◌∷◌, ◌++◌, map, flat_map, take, drop, length, get_or, Some, None, refl, sym, ap, ◌∙◌, subst, append_assoc, append-nil, arith, length-append}
use Rattle.std.specs.Prelude.{slice_get}
use Rattle.std.proofs.lemmas.Option.{get_or_from_slice_get}
use Rattle.std.proofs.lemmas.List.{take_more, drop_more, drop_all, take-append-le, drop-append-le, map-append, flat_map_more, length-take-le, length-map}
use Rattle.std.proofs.lemmas.Grind.{flat_map-append}
use Rattle.serde_json.specs.Data.{Data}
use Rattle.serde_json.specs.View.{view}
use Rattle.ref_paths.specs.Path.{Part, Key, value_at}
use Rattle.ref_draft.specs.declared.spec.walk.Child.{Child}
use Rattle.ref_draft.specs.Children.{Walked, AllAreThere, walked_children}
use Rattle.ref_draft.specs.Views.{segment_parts, walked_child}
use Rattle.ref_draft.proofs.Lists.{all_append}
use Rattle.ref_uri.specs.Targets.{Refusal}
use Rattle.ref_uri.specs.declared.error.UriFault.{UriFault}
use Rattle.ref_uri.specs.declared.error.UriFault.TheVariants.{Invalid, Memory}
use Rattle.ref_definitions.specs.World.{Document}
use Rattle.ref_definitions.specs.Places.{Place, root, child_place, children_of, places}
use Rattle.ref_definitions.specs.Queue.{IsQueueBy}
use Rattle.ref_definitions.specs.Resources.{resource_of}
use Rattle.ref_definitions.proofs.Levels.{children_shallower}
use Rattle.ref_definitions.proofs.Queues.{at_root, step, at_end, beginning}
use Rattle.ref_definitions.specs.Anchors.{named_under}
use Rattle.ref_definitions.specs.Cached.{identifier_pairs_at, reference_pairs_at}
use Rattle.ref_index.specs.declared.found.Found.{Found}
use Rattle.ref_index.specs.declared.queue.Visit.{Visit}
use Rattle.ref_index.specs.Visit.{path_of, place_of, place_with, value_of}
use Rattle.ref_index.specs.inner.Visits.{AddsPlace, AddsPlaces, Came, ChildrenCame, IsVisited, IsWalked, AllAreIn, IsAt, names_of}
use Rattle.ref_index.specs.Faults.{IsFirstFault, faults_of}
use Rattle.ref_index.specs.Listed.{ChildrenAreAt, wants_of}
use Rattle.ref_index.specs.Spots.{with_number}
use Rattle.ref_index.proofs.Spots.{numbered_past}
use Rattle.ref_index.proofs.Visiting.{holds_same}
use Rattle.ref_definitions.proofs.Standing.{IsValueAt, below_one}

-- ---- values at paths

is_there_at : (d : Document) (vs : List Visit) (i : ℕ) (v : Visit) → slice_get vs i ≡ Some v → AllAreIn d (map place_of vs) → value_at d.tree (place_of v).path ≡ Some (place_of v).value
is_there_at d [] i v at all = cc
is_there_at d (w ∷ vs) zero v at all = let same : w ≡ v = cc in subst (λ u. value_at d.tree (place_of u).path ≡ Some (place_of u).value) same all.0
is_there_at d (w ∷ vs) (suc i) v at all = is_there_at d vs i v at all.1

-- ---- the first fault

pub first_in_front : (fs gs : List Refusal) (fault : UriFault) → IsFirstFault fs fault → IsFirstFault (fs ++ gs) fault
first_in_front fs gs (Invalid error) (refusal, more, is, says) = (refusal, more ++ gs, ap (λ l. l ++ gs) is, says)
first_in_front fs gs (Memory error) is = tt

-- the first fault of the place that is visited, where none before it has one
pub first_of_visit : (d : Document) (visited waiting : List Place) (p : Place) (fault : UriFault) → IsQueueBy children_of d visited (p ∷ waiting) → flat_map faults_of visited ≡ []
    → IsFirstFault (faults_of p) fault → IsFirstFault (flat_map faults_of (places d)) fault
first_of_visit d visited waiting p fault is none first =
    let left = beginning children_of d visited (p ∷ waiting) is in
    let split : flat_map faults_of (places d) ≡ faults_of p ++ flat_map faults_of (waiting ++ left.0) =
    ap (flat_map faults_of) left.1 ∙ flat_map-append faults_of visited (p ∷ (waiting ++ left.0)) ∙ ap (λ l. l ++ flat_map faults_of (p ∷ (waiting ++ left.0))) none in
    subst (λ l. IsFirstFault l fault) (sym split) (first_in_front (faults_of p) (flat_map faults_of (waiting ++ left.0)) fault first)

-- ---- the queue at a head

pub head_is : (vs : List Visit) (i : ℕ) (v : Visit) → i < length vs → slice_get vs i ≡ Some v → map place_of (drop i vs) ≡ place_of v ∷ map place_of (drop (i + 1) vs)
head_is vs i v within at =
    ap (map place_of) (drop_more vs i v within ∙ ap (λ w. w ∷ drop (i + 1) vs) (get_or_from_slice_get vs i v v at))

pub visited_is : (vs more : List Visit) (i : ℕ) (v : Visit) → i < length vs → slice_get vs i ≡ Some v → map place_of (take (i + 1) (vs ++ more)) ≡ map place_of (take i vs) ++ place_of v ∷ []
visited_is vs more i v within at =
    ap (map place_of) (take-append-le (i + 1) vs more (omega arith) ∙ take_more vs i v within ∙ ap (λ w. take i vs ++ w ∷ []) (get_or_from_slice_get vs i v v at))
    ∙ map-append place_of (take i vs) (v ∷ [])

pub waiting_is : (vs more : List Visit) (i : ℕ) → i < length vs → map place_of (drop (i + 1) (vs ++ more)) ≡ map place_of (drop (i + 1) vs) ++ map place_of more
waiting_is vs more i within = ap (map place_of) (drop-append-le (i + 1) vs more (omega arith)) ∙ map-append place_of (drop (i + 1) vs) more

-- ---- one place more

added_more : {A : Type 0} (f : Place → List A) (front : List A) (x : List A) (visited : List Place) (p : Place) → (front ++ (x ++ flat_map f visited)) ++ f p ≡ front ++ (x ++ flat_map f (visited ++ p ∷ []))
added_more f front x visited p =
    append_assoc front (x ++ flat_map f visited) (f p) ∙ ap (λ l. front ++ l) (flat_map_more f x visited p)

numbered_added : {A : Type 0} (f : Place → List A) (number : ℕ) (front : List (ℕ × A)) (x : List A) (visited : List Place) (p : Place)
    → (front ++ with_number number (x ++ flat_map f visited)) ++ with_number number (f p) ≡ front ++ with_number number (x ++ flat_map f (visited ++ p ∷ []))
numbered_added f number front x visited p =
    numbered_past number front (x ++ flat_map f visited) (f p) ∙ ap (λ l. front ++ with_number number l) (flat_map_more f x visited p)

pub adds_more : (d : Document) (number : ℕ) (old new newer : Found) (visited : List Place) (p : Place) → value_at d.tree p.path ≡ Some p.value
    → AddsPlaces d number visited old new → AddsPlace number None p new newer → AddsPlaces d number (visited ++ p ∷ []) old newer
adds_more d number old new newer visited p at walk visit = λ layer held there holds.
    holds_same layer newer _ _ (numbered_added resource_of number held.resources ((d.uri, root d) ∷ []) visited p)
    (numbered_added names_of number held.names (named_under d.uri (root d)) visited p) (added_more wants_of held.wants [] visited p)
    (added_more identifier_pairs_at held.identifiers [] visited p) (added_more reference_pairs_at held.references [] visited p)
    (visit layer _ (walk layer held there holds) (record { document = d; numbered = there; value = at }))

pub adds_root : (d : Document) (number : ℕ) (old new : Found) (p : Place) → p ≡ root d → AddsPlace number (Some d.uri) p old new → AddsPlaces d number (p ∷ []) old new
adds_root d number old new p is visit = λ layer held there holds.
    holds_same layer new _ _
    (ap (λ q. held.resources ++ with_number number ((d.uri, q) ∷ resource_of p)) is ∙ ap (λ l. held.resources ++ with_number number ((d.uri, root d) ∷ l)) (sym (append-nil (resource_of p))))
    (ap (λ q. held.names ++ with_number number (named_under d.uri q ++ names_of p)) is ∙ ap (λ l. held.names ++ with_number number (named_under d.uri (root d) ++ l)) (sym (append-nil (names_of p))))
    (ap (λ l. held.wants ++ l) (sym (append-nil (wants_of p)))) (ap (λ l. held.identifiers ++ l) (sym (append-nil (identifier_pairs_at p)))) (ap (λ l. held.references ++ l) (sym (append-nil (reference_pairs_at p))))
    (visit layer held holds (record { document = d; numbered = there; value = subst (λ q. value_at d.tree q.path ≡ Some q.value) (sym is) refl }))

pub walked_more : (d : Document) (number : ℕ) (old new newer : Found) (visited : List Place) (v : Visit) (queue after : List Visit) → value_at d.tree (place_of v).path ≡ Some (place_of v).value
    → IsWalked d number old new visited → IsVisited number None v new newer queue after → IsWalked d number old newer (visited ++ place_of v ∷ [])
walked_more d number old new newer visited v queue after at walk visit = record {
  added = adds_more d number old new newer visited (place_of v) at walk.added visit.added;
  children = all_append ChildrenAreAt visited (place_of v ∷ []) walk.children (visit.are_there, tt);
  faultless = flat_map-append faults_of visited (place_of v ∷ []) ∙ ap (λ l. l ++ (faults_of (place_of v) ++ [])) walk.faultless ∙ append-nil (faults_of (place_of v)) ∙ visit.faultless;
}

grown_are_there : (d : Document) (vs more : List Visit) (v : Visit) → value_at d.tree (place_of v).path ≡ Some (place_of v).value → AllAreIn d (map place_of vs)
    → map place_of more ≡ children_of (place_of v) → AllAreThere (value_of v.value) (walked_children v.draft (value_of v.value)) → AllAreIn d (map place_of (vs ++ more))
grown_are_there d vs more v at all children are_there =
    subst (AllAreIn d) (sym (map-append place_of vs more))
    (all_append (IsValueAt d.tree) (map place_of vs) (map place_of more) all (subst (AllAreIn d) (sym children) (below_one d.tree (place_of v) (place_of v).base at are_there)))

pub advance : (d : Document) (number : ℕ) (old new newer : Found) (queue after : List Visit) (head : ℕ) (v : Visit) → head < length queue → slice_get queue head ≡ Some v
    → IsAt d number old new queue head → IsVisited number None v new newer queue after → IsAt d number old newer after (head + 1)
advance d number old new newer queue after head v within here is visit =
    let at = is_there_at d queue head v here is.are_there in
    let vs = queue ++ visit.more in
    let front = visited_is queue visit.more head v within here in
    let moved = step children_of d (map place_of (take head queue)) (map place_of (drop (head + 1) queue)) (place_of v) (subst (IsQueueBy children_of d (map place_of (take head queue))) (head_is queue head v within here) is.order) in
    let rest : map place_of (drop (head + 1) queue) ++ children_of (place_of v) ≡ map place_of (drop (head + 1) vs) = sym (waiting_is queue visit.more head within ∙ ap (λ l. map place_of (drop (head + 1) queue) ++ l) visit.children) in
    let result : IsAt d number old newer vs (head + 1) = record {
      within = omega (arith, length-append queue visit.more);
      order = subst (λ l. IsQueueBy children_of d l (map place_of (drop (head + 1) vs))) (sym front) (subst (IsQueueBy children_of d (map place_of (take head queue) ++ place_of v ∷ [])) rest moved);
      are_there = grown_are_there d queue visit.more v at is.are_there visit.children visit.are_there;
      walk = subst (IsWalked d number old newer) (sym front) (walked_more d number old new newer (map place_of (take head queue)) v queue after at is.walk visit);
    } in
    subst (λ l. IsAt d number old newer l (head + 1)) (sym visit.grown) result

-- the root is the first
pub begin : (d : Document) (number : ℕ) (old new : Found) (queue after : List Visit) (v : Visit) → queue ≡ v ∷ [] → place_of v ≡ root d → IsVisited number (Some d.uri) v old new queue after → IsAt d number old new after 1
begin d number old new queue after v one is visit =
    let at : value_at d.tree (place_of v).path ≡ Some (place_of v).value = subst (λ p. value_at d.tree p.path ≡ Some p.value) (sym is) refl in
    let vs = v ∷ visit.more in
    let same : vs ≡ after = sym (visit.grown ∙ ap (λ l. l ++ visit.more) one) in
    let order : IsQueueBy children_of d (place_of v ∷ []) (map place_of visit.more) =
    subst (IsQueueBy children_of d (place_of v ∷ [])) (sym visit.children) (step children_of d [] [] (place_of v) (subst (λ p. IsQueueBy children_of d [] (p ∷ [])) (sym is) (at_root children_of children_shallower d))) in
    let result : IsAt d number old new vs 1 = record {
      within = omega arith;
      order = order;
      are_there = grown_are_there d (v ∷ []) visit.more v at (at, tt) visit.children visit.are_there;
      walk = record {
        added = adds_root d number old new (place_of v) is visit.added;
        faultless = append-nil (faults_of (place_of v)) ∙ visit.faultless;
        children = (visit.are_there, tt);
      };
    } in
    subst (λ l. IsAt d number old new l 1) same result

-- ---- the end

pub finish : (d : Document) (number : ℕ) (old new : Found) (queue : List Visit) (head : ℕ) → length queue ≤ head → IsAt d number old new queue head → IsWalked d number old new (places d)
finish d number old new queue head all is =
    subst (IsWalked d number old new)
    (sym (at_end children_of d (map place_of (take head queue)) (subst (λ l. IsQueueBy children_of d (map place_of (take head queue)) (map place_of l)) (drop_all head queue all) is.order))) is.walk

-- the element at a place of a list
pub element_there : {X : Type 0} (xs : List X) (i : ℕ) → i < length xs → (x : X) × (slice_get xs i ≡ Some x)
element_there [] i within = absurd (omega (arith, within))
element_there (x ∷ xs) zero within = (x, refl)
element_there (x ∷ xs) (suc i) within = element_there xs i (omega (arith, within))

-- what is pushed onto an empty list is there alone
pub first_there : {X : Type 0} (xs empty : List X) (x : X) → xs ≡ empty ++ x ∷ [] → empty ≡ [] → (xs ≡ x ∷ []) × (slice_get xs 0 ≡ Some x)
first_there xs empty x pushed none =
    let one = pushed ∙ ap (λ l. l ++ x ∷ []) none in
    (one, ap (λ l. slice_get l 0) one)

pub left_in : (d : Document) (queue : List Visit) (head : ℕ) → head < length queue → IsQueueBy children_of d (map place_of (take head queue)) (map place_of (drop head queue)) → head < length (places d)
left_in d queue head within order =
    let (v, here) = element_there queue head within in
    let some = beginning children_of d (map place_of (take head queue)) (place_of v ∷ map place_of (drop (head + 1) queue)) (subst (IsQueueBy children_of d (map place_of (take head queue))) (head_is queue head v within here) order) in
    let long : length (places d) ≡ length (map place_of (take head queue)) + suc (length (map place_of (drop (head + 1) queue) ++ some.0)) = ap length some.1 ∙ length-append (map place_of (take head queue)) _ in
    omega (arith, length-map (take head queue) place_of, length-take-le head queue (omega arith))

-- ---- the children of a place

-- one child more came
pub one_more_came : (path : List Part) (base : List ℕ) (children : List Child) (child : Child) (queue now after : List Visit) (below : List Part) → Came path base (map walked_child children) queue now
    → below ≡ path ++ Key child.keyword.now ∷ segment_parts child.segment → (v : Visit) × (after ≡ now ++ v ∷ []) × (place_of v ≡ place_with below (view child.value.now) child.draft base)
    → Came path base (map walked_child (children ++ child ∷ [])) queue after
one_more_came path base children child queue now after below (more, grown, placed) is (v, longer, at) =
    let here : place_of v ≡ child_place path base (walked_child child) = at ∙ ap (λ p. place_with p (view child.value.now) child.draft base) is in (
      more ++ v ∷ [],
      longer ∙ ap (λ l. l ++ v ∷ []) grown ∙ append_assoc queue more (v ∷ []),
      map-append place_of more (v ∷ []) ∙ ap (λ l. l ++ place_of v ∷ []) placed ∙ ap (λ p. map (child_place path base) (map walked_child children) ++ p ∷ []) here
          ∙ sym (map-append (child_place path base) (map walked_child children) (walked_child child ∷ [])) ∙ ap (map (child_place path base)) (sym (map-append walked_child children (child ∷ []))),
    )

-- where there are no children, none came
pub none_came : (path : List Part) (base : List ℕ) (queue : List Visit) (children : List Walked) → children ≡ [] → Came path base children queue queue
none_came path base queue children none = ([], sym (append-nil queue), sym (ap (map (child_place path base)) none))

-- the children of the place at an index of the queue came to it
pub came : (queue after : List Visit) (index : ℕ) (w v : Visit) (path : List Part) (value : Data) (base : List ℕ) (children : List Walked) → w ≡ get_or queue index w → slice_get queue index ≡ Some v → path_of w.value ≡ path
    → value_of w.value ≡ value → children ≡ walked_children w.draft value → AllAreThere value children → Came path base children queue after → ChildrenCame (path_of v.value) (value_of v.value) v.draft base queue after
came queue after index w v path value base children read there path_is is are are_there pushed =
    subst (λ u. ChildrenCame (path_of u.value) (value_of u.value) u.draft base queue after) (read ∙ get_or_from_slice_get queue index v w there)
    (subst (λ p. ChildrenCame p (value_of w.value) w.draft base queue after) (sym path_is)
    (subst (λ d. ChildrenCame path d w.draft base queue after) (sym is)
    (subst (λ cs. Came path base cs queue after) are pushed, subst (AllAreThere value) are are_there)))

pub nothing : {X : Type 0} (xs : List X) → length xs ≡ 0 → xs ≡ []
nothing [] none = refl
nothing (x ∷ xs) none = absurd (omega arith)
