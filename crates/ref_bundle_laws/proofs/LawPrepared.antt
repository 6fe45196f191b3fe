-- A bundle has no fault and no open want.
use Rattle.std.proofs.Common.{◌≡◌, ℕ, true, false, not, List, [], ◌∷◌, ◌++◌, flat_map, map, filter, drop, codes, Option, Some, None, is_some, option_map, option_and_then, Result, Ok, Err, ⊎_elim, refl, sym, ap, subst, ◌∙◌, append-nil, true≢false, arith}
use Rattle.std.specs.List.{AllByRecursion, Contains}
use Rattle.std.specs.Option.{option_to_list}
use Rattle.std.specs.Result.{result_ok}
use Rattle.std.proofs.lemmas.List.{map-append}
use Rattle.std.proofs.lemmas.List.Elements.{Contains-append_right, Contains-append_left, Contains-append_cases}
use Rattle.serde_json.specs.Data.{Data}
use Rattle.ref_paths.specs.Path.{Part}
use Rattle.ref_draft.specs.Schema.{text_under}
use Rattle.ref_uri.specs.Targets.{Refusal, target, fragment_part}
use Rattle.ref_draft.proofs.Lists.{all_append}
use Rattle.ref_definitions.specs.World.{Document, Layer, World}
use Rattle.ref_definitions.specs.Places.{Place, root, places}
use Rattle.ref_definitions.specs.Resources.{meant_place}
use Rattle.ref_definitions.specs.Wants.{Cause, Reference, MetaSchema, Want, reference_at, schema_uri, schema_at, wants_of_text, refusals_of, wants_at, faults_at, wants, faults, is_open, open_wants}
use Rattle.ref_definitions.proofs.AtOrBelow.{place_has_base}
use Rattle.ref_bundle_laws.specs.Merges.{IsMerge, ended, from_first, from_second, IsMergeOf}
use Rattle.ref_definitions.specs.Moving.{below_path}
use Rattle.ref_bundle.specs.Needed as refers
use Rattle.ref_bundle.specs.Needed.{Further, reference_of, reference_under, meta_schema_of, targets_from, targets, needed_documents}
use Rattle.ref_bundle.specs.Bundle.{Bundle, to_embed, bundle_of}
use Rattle.ref_bundle_laws.specs.Kept.{IsBundle, document_of_bundle, world_of_bundle, place_in, places_of_embedded, places_of_root}
use Rattle.ref_bundle_laws.proofs.LawAlike.{BothAlike}
use Rattle.ref_bundle_laws.proofs.LawEntries.{each_none, none_of, not_first, not_later}
use Rattle.ref_bundle_laws.proofs.LawPut.{text_embedded, meta_embedded, embeddable}
use Rattle.ref_bundle_laws.proofs.LawTop.{text_top}
use Rattle.ref_bundle_laws.proofs.LawPlaces.{put_in, joined, same_base}
use Rattle.ref_bundle_laws.proofs.LawClosed.{root_needed}
use Rattle.ref_bundle_laws.proofs.LawBundled.{none_pass, none_in, no_obstacle}
use Rattle.ref_bundle_laws.proofs.LawFacts.{in_layer, IsMade, made, root_counted, needed_counted, embedded_needed, put_of, all_put, made_places}
use Rattle.ref_bundle_laws.proofs.LawMeaning.{IsNow, means_now}
use Rattle.ref_bundle_laws.proofs.LawClear.{clear_target}
use Rattle.ref_definitions.proofs.Lists.{first_or_later, in_joined, each_in, all_of}

-- ---- what holds of each part holds of all

merge_all : {X : Type 0} (P : X → Type 0) (all xs ys : List X) → IsMerge X all xs ys → AllByRecursion P xs → AllByRecursion P ys → AllByRecursion P all
merge_all P all xs ys ended first second = tt
merge_all P all xs ys (from_first x us vs ws merge) first second = (first.0, merge_all P us vs ws merge first.1 second)
merge_all P all xs ys (from_second y us vs ws merge) first second = (second.0, merge_all P us vs ws merge first second.1)

pub merge_of_all : {X : Type 0} (P : X → Type 0) (all : List X) (parts : List (List X)) → IsMergeOf X all parts → AllByRecursion (AllByRecursion P) parts → AllByRecursion P all
merge_of_all P all [] merge each = subst (AllByRecursion P) (sym merge) tt
merge_of_all P all (part ∷ parts) merge each = merge_all P all part merge.0 merge.1 each.0 (merge_of_all P merge.0 parts merge.2 each.1)

-- ---- what a place wants is among its targets

-- a URI that is wanted for a text is that of a reference
wanted : (cause : Cause) (o : Option (Result (List ℕ) Refusal)) (w : Want) → Contains (wants_of_text cause o) w → o ≡ Some (Ok w.uri)
wanted cause None w there = absurd (omega (arith, there.1))
wanted cause (Some (Ok uri)) w there =
    ⊎_elim (λ same. ap (λ (v : Want). Some (Ok v.uri)) same) (λ later. absurd (omega (arith, later.1))) (first_or_later (record { cause = cause; uri = uri }) [] w there)
wanted cause (Some (Err refusal)) w there = absurd (omega (arith, there.1))

by_text : (base : List ℕ) (o : Option (List ℕ)) (uri : List ℕ) → option_map (target base) o ≡ Some (Ok uri) → Contains (map (λ (r : refers.Reference). r.uri) (option_to_list (option_and_then (reference_of base) o))) uri
by_text base None uri is = absurd (let e : None ≡ Some (Ok uri) = is in cc)
by_text base (Some text) uri is =
    let means_ : target base text ≡ Ok uri = let e : Some (target base text) ≡ Some (Ok uri) = is in cc in
    subst (λ t. Contains (map (λ (r : refers.Reference). r.uri) (option_to_list (option_map (λ u. record { uri = u; fragment = fragment_part text }) (result_ok t)))) uri) (sym means_) (0, omega arith, refl)

by_meta : (o : Option (Result (List ℕ) Refusal)) (uri : List ℕ) → o ≡ Some (Ok uri) → Contains (map (λ (r : refers.Reference). r.uri) (option_to_list (option_map (λ u. record { uri = u; fragment = [] }) (option_and_then (λ named. result_ok named) o)))) uri
by_meta o uri is =
    subst (λ t. Contains (map (λ (r : refers.Reference). r.uri) (option_to_list (option_map (λ u. record { uri = u; fragment = [] }) (option_and_then (λ named. result_ok named) t)))) uri) (sym is) (0, omega arith, refl)

want_is_target : (base : List ℕ) (value : Data) (w : Want) → Contains (wants_at (Ok base) value) w → Contains (targets_from (Ok base) value) w.uri
want_is_target base value w there =
    let uris = map (λ (r : refers.Reference). r.uri) in
    let plain = option_to_list (reference_under (codes "$ref") base value) in
    let dynamic = option_to_list (reference_under (codes "$dynamicRef") base value) in
    let meta = option_to_list (meta_schema_of value) in
    let parts : uris ((plain ++ dynamic) ++ meta) ≡ (uris plain ++ uris dynamic) ++ uris meta = map-append (λ (r : refers.Reference). r.uri) (plain ++ dynamic) meta ∙ ap (λ l. l ++ uris meta) (map-append (λ (r : refers.Reference). r.uri) plain dynamic) in
    subst (λ l. Contains l w.uri) (sym parts)
    (⊎_elim
    (λ here. Contains-append_left (uris plain ++ uris dynamic) (uris meta) w.uri (Contains-append_left (uris plain) (uris dynamic) w.uri (by_text base (text_under (codes "$ref") value) w.uri (wanted Reference (reference_at base value) w here))))
    (λ later. Contains-append_right (uris plain ++ uris dynamic) (uris meta) w.uri (by_meta (schema_at value) w.uri (wanted MetaSchema (schema_at value) w later)))
    (Contains-append_cases (wants_of_text Reference (reference_at base value)) (wants_of_text MetaSchema (schema_at value)) w there))

-- ---- places that refer alike

faults_alike : (base : Result (List ℕ) Refusal) (w v : Data) → text_under (codes "$ref") w ≡ text_under (codes "$ref") v → schema_at w ≡ schema_at v → faults_at base w ≡ faults_at base v
faults_alike (Ok base) w v refs metas =
    ap (λ o. refusals_of (option_map (target base) o) ++ refusals_of (schema_at w)) refs ∙ ap (λ o. refusals_of (reference_at base v) ++ refusals_of o) metas
faults_alike (Err refusal) w v refs metas = ap (λ o. refusal ∷ refusals_of o) metas

wants_alike : (base : Result (List ℕ) Refusal) (w v : Data) → text_under (codes "$ref") w ≡ text_under (codes "$ref") v → schema_at w ≡ schema_at v → wants_at base w ≡ wants_at base v
wants_alike (Ok base) w v refs metas =
    ap (λ o. wants_of_text Reference (option_map (target base) o) ++ wants_of_text MetaSchema (schema_at w)) refs ∙ ap (λ o. wants_of_text Reference (reference_at base v) ++ wants_of_text MetaSchema o) metas
wants_alike (Err refusal) w v refs metas = ap (wants_of_text MetaSchema) metas

-- ---- a place of the bundle

abbrev IsReady : World → Place → Type 0
IsReady world q = (faults_at q.base q.value ≡ []) × AllByRecursion (λ w. is_open world w ≡ false) (wants_at q.base q.value)

both_there : (top : Document) (es : List (ℕ × Document)) (a b : Option Place) → BothAlike (IsNow top es) a b → is_some b ≡ true → is_some a ≡ true
both_there top es None None both there = there
both_there top es None (Some p) both there = absurd both
both_there top es (Some q) None both there = refl
both_there top es (Some q) (Some p) both there = refl

none_open : (world : World) (ws : List Want) → filter (is_open world) ws ≡ [] → AllByRecursion (λ w. is_open world w ≡ false) ws
none_open world [] none = tt
none_open world (w ∷ ws) none = (not_first w (filter (is_open world) ws) (is_open world w) none, none_open world ws (not_later w (filter (is_open world) ws) (is_open world w) none))

closed_there : (o : Option Place) → not (is_some o) ≡ false → is_some o ≡ true
closed_there None is = absurd (true≢false is)
closed_there (Some p) is = refl

want_met : (layer : Layer) (fs : Further) (parents : World) (n : ℕ) (top : Document) → IsMade layer fs n top → open_wants (layer ∷ parents) layer ≡ [] → (e : ℕ × Document) (p : Place) (w : Want) → Contains (needed_documents layer fs n) e → Contains (places e.1) p
    → (base : List ℕ) → p.base ≡ Ok base → Contains (wants_at p.base p.value) w → is_open ((joined top (to_embed layer fs n) ∷ []) ∷ parents) w ≡ false
want_met layer fs parents n top is met e p w need place base has there =
    let own = in_layer 0 layer e (needed_counted layer fs n e need) in
    let in_all : Contains (wants layer) w =
    in_joined (λ d. flat_map (λ q. wants_at q.base q.value) (places d)) layer e.1 w own (in_joined (λ q. wants_at q.base q.value) (places e.1) p w place there) in
    let closed = each_in (λ v. is_open (layer ∷ parents) v ≡ false) (wants layer) w (none_open (layer ∷ parents) (wants layer) met) in_all in
    let is_target : Contains (targets p) w.uri =
    subst (λ b. Contains (targets_from b p.value) w.uri) (sym has) (want_is_target base p.value w (subst (λ b. Contains (wants_at b p.value) w) has there)) in
    let now = means_now layer parents n top (to_embed layer fs n) w.uri (made_places layer fs n top is) (all_put layer fs n top is) (clear_target layer fs n top is e p w.uri need place is_target) in
    ap not (both_there top (to_embed layer fs n) (meant_place ((joined top (to_embed layer fs n) ∷ []) ∷ parents) w.uri) (meant_place (layer ∷ parents) w.uri) now (closed_there (meant_place (layer ∷ parents) w.uri) closed))

ready : (layer : Layer) (fs : Further) (parents : World) (n : ℕ) (top : Document) → IsMade layer fs n top → open_wants (layer ∷ parents) layer ≡ [] → (e : ℕ × Document) (p q : Place) → Contains (needed_documents layer fs n) e → Contains (places e.1) p
    → q.base ≡ p.base → text_under (codes "$ref") q.value ≡ text_under (codes "$ref") p.value → schema_at q.value ≡ schema_at p.value → IsReady ((joined top (to_embed layer fs n) ∷ []) ∷ parents) q
ready layer fs parents n top is met e p q need place bases refs metas =
    let own = in_layer 0 layer e (needed_counted layer fs n e need) in
    let base = place_has_base layer e.1 p is.no_fault own place in
    let no_fault : faults_at p.base p.value ≡ [] =
    each_in (λ x. faults_at x.base x.value ≡ []) (places e.1) p
    (each_none (λ x. faults_at x.base x.value) (places e.1)
    (each_in (λ d. flat_map (λ x. faults_at x.base x.value) (places d) ≡ []) layer e.1 (each_none (λ d. flat_map (λ x. faults_at x.base x.value) (places d)) layer is.no_fault) own)) place in (
      ap (λ b. faults_at b q.value) bases ∙ faults_alike p.base q.value p.value refs metas ∙ no_fault,
      subst (AllByRecursion (λ w. is_open ((joined top (to_embed layer fs n) ∷ []) ∷ parents) w ≡ false))
          (sym (ap (λ b. wants_at b q.value) bases ∙ wants_alike p.base q.value p.value refs metas))
          (all_of (λ w. is_open ((joined top (to_embed layer fs n) ∷ []) ∷ parents) w ≡ false) (wants_at p.base p.value) (λ w there. want_met layer fs parents n top is met e p w need place base.0 base.1 there)),
    )

after_ready : (layer : Layer) (fs : Further) (parents : World) (n : ℕ) (top : Document) → IsMade layer fs n top → open_wants (layer ∷ parents) layer ≡ [] → (e : ℕ × Document) (front : List Part) (ps : List Place) → Contains (needed_documents layer fs n) e
    → ((p : Place) → Contains ps p → Contains (places e.1) p) → AllByRecursion (IsReady ((joined top (to_embed layer fs n) ∷ []) ∷ parents)) (map (below_path front) ps)
after_ready layer fs parents n top is met e front [] need own = tt
after_ready layer fs parents n top is met e front (p ∷ ps) need own = (
  ready layer fs parents n top is met e p (below_path front p) need (own p (0, omega arith, refl)) refl refl refl,
  after_ready layer fs parents n top is met e front ps need (λ q there. own q (Contains-append_right (p ∷ []) ps q there)),
)

same_ready : (layer : Layer) (fs : Further) (parents : World) (n : ℕ) (top : Document) → IsMade layer fs n top → open_wants (layer ∷ parents) layer ≡ [] → (e : ℕ × Document) (ps : List Place) → Contains (needed_documents layer fs n) e
    → ((p : Place) → Contains ps p → Contains (places e.1) p) → AllByRecursion (IsReady ((joined top (to_embed layer fs n) ∷ []) ∷ parents)) ps
same_ready layer fs parents n top is met e [] need own = tt
same_ready layer fs parents n top is met e (p ∷ ps) need own = (
  ready layer fs parents n top is met e p p need (own p (0, omega arith, refl)) refl refl refl,
  same_ready layer fs parents n top is met e ps need (λ q there. own q (Contains-append_right (p ∷ []) ps q there)),
)

embedded_ready : (layer : Layer) (fs : Further) (parents : World) (n : ℕ) (top : Document) → IsMade layer fs n top → open_wants (layer ∷ parents) layer ≡ [] → (e : ℕ × Document) → Contains (to_embed layer fs n) e
    → AllByRecursion (IsReady ((joined top (to_embed layer fs n) ∷ []) ∷ parents)) (places_of_embedded top e)
embedded_ready layer fs parents n top is met e there =
    let need = embedded_needed layer fs n e there in
    let put = put_of layer fs n top is e there in
    let able = embeddable top e.1 (no_obstacle layer fs is.world n top e (none_in layer fs is.world n top e is.unrefused need.0) need.1) in (
      ready layer fs parents n top is met e (root e.1) (place_in top e.1) need.0 (0, omega arith, refl) (put.has_base ∙ sym put.same_base)
          (text_embedded top.draft e.1 (codes "$ref") refl refl refl) (meta_embedded top.draft e.1 able.object),
      after_ready layer fs parents n top is met e (put_in top e).place.path (drop 1 (places e.1)) need.0 (λ q later. Contains-append_right (root e.1 ∷ []) (drop 1 (places e.1)) q later),
    )

each_embedded_ready : (layer : Layer) (fs : Further) (parents : World) (n : ℕ) (top : Document) → IsMade layer fs n top → open_wants (layer ∷ parents) layer ≡ [] → (es : List (ℕ × Document)) → ((e : ℕ × Document) → Contains es e → Contains (to_embed layer fs n) e)
    → AllByRecursion (AllByRecursion (IsReady ((joined top (to_embed layer fs n) ∷ []) ∷ parents))) (map (places_of_embedded top) es)
each_embedded_ready layer fs parents n top is met [] own = tt
each_embedded_ready layer fs parents n top is met (e ∷ es) own =
    (embedded_ready layer fs parents n top is met e (own e (0, omega arith, refl)), each_embedded_ready layer fs parents n top is met es (λ f there. own f (Contains-append_right (e ∷ []) es f there)))

all_ready : (layer : Layer) (fs : Further) (parents : World) (n : ℕ) (top : Document) → IsMade layer fs n top → open_wants (layer ∷ parents) layer ≡ [] → AllByRecursion (IsReady ((joined top (to_embed layer fs n) ∷ []) ∷ parents)) (places (joined top (to_embed layer fs n)))
all_ready layer fs parents n top is met =
    let own = root_needed layer fs (n, top) (root_counted layer n top is.at) in
    merge_of_all (IsReady ((joined top (to_embed layer fs n) ∷ []) ∷ parents)) (places (joined top (to_embed layer fs n))) (places_of_root top (bundle_of top (to_embed layer fs n)) ∷ map (places_of_embedded top) (to_embed layer fs n)) (made_places layer fs n top is) (
      (
        ready layer fs parents n top is met (n, top) (root top) (root (joined top (to_embed layer fs n))) own (0, omega arith, refl) (same_base top (to_embed layer fs n))
            (text_top top (to_embed layer fs n) (codes "$ref") refl refl) (ap (option_and_then schema_uri) (text_top top (to_embed layer fs n) (codes "$schema") refl refl)),
        same_ready layer fs parents n top is met (n, top) (drop 1 (places top)) own (λ q later. Contains-append_right (root top ∷ []) (drop 1 (places top)) q later),
      ),
      each_embedded_ready layer fs parents n top is met (to_embed layer fs n) (λ e there. there),
    )

-- ---- the bundle

no_faults : (world : World) (qs : List Place) → AllByRecursion (IsReady world) qs → AllByRecursion (λ q. faults_at q.base q.value ≡ []) qs
no_faults world [] each = tt
no_faults world (q ∷ qs) each = (each.0.0, no_faults world qs each.1)

all_closed : (world : World) (qs : List Place) → AllByRecursion (IsReady world) qs → AllByRecursion (λ w. is_open world w ≡ false) (flat_map (λ q. wants_at q.base q.value) qs)
all_closed world [] each = tt
all_closed world (q ∷ qs) each = all_append (λ w. is_open world w ≡ false) (wants_at q.base q.value) (flat_map (λ p. wants_at p.base p.value) qs) each.0.1 (all_closed world qs each.1)

pub no_fault : (layer : Layer) (fs : Further) (parents : World) (n : ℕ) (top : Document) (bundle : Bundle) → IsBundle layer fs parents n top bundle → faults (document_of_bundle top bundle ∷ []) ≡ []
no_fault layer fs parents n top bundle is =
    let both = made layer fs parents n top bundle is in
    let each = all_ready layer fs parents n top both.0 is.no_want in
    subst (λ b. faults (document_of_bundle top b ∷ []) ≡ []) (sym both.2)
    (append-nil (flat_map (λ q. faults_at q.base q.value) (places (joined top (to_embed layer fs n))))
    ∙ none_of (λ q. faults_at q.base q.value) (places (joined top (to_embed layer fs n))) (no_faults ((joined top (to_embed layer fs n) ∷ []) ∷ parents) (places (joined top (to_embed layer fs n))) each))

pub no_open_want : (layer : Layer) (fs : Further) (parents : World) (n : ℕ) (top : Document) (bundle : Bundle) → IsBundle layer fs parents n top bundle → open_wants (world_of_bundle top bundle parents) (document_of_bundle top bundle ∷ []) ≡ []
no_open_want layer fs parents n top bundle is =
    let both = made layer fs parents n top bundle is in
    let each = all_ready layer fs parents n top both.0 is.no_want in
    let world = (joined top (to_embed layer fs n) ∷ []) ∷ parents in
    subst (λ b. open_wants (world_of_bundle top b parents) (document_of_bundle top b ∷ []) ≡ []) (sym both.2)
    (ap (filter (is_open world)) (append-nil (flat_map (λ q. wants_at q.base q.value) (places (joined top (to_embed layer fs n)))))
    ∙ none_pass (is_open world) (flat_map (λ q. wants_at q.base q.value) (places (joined top (to_embed layer fs n)))) (all_closed world (places (joined top (to_embed layer fs n))) each))
