-- Look-ups in a bundle return what they returned.
--
-- 1. Values and drafts: an embedded document has its draft still, and its places have their values, but for what was added.
-- 2. A dynamic anchor: its identifier against the URI that it was found under gives the same base, and the entries of the scope are
--    those that were there, each moved to its place in the bundle.
-- 3. A pointer goes the way that it went, unless it leads to the root's definitions, of which there are more (`LawPointers`).
-- 4. A fragment is empty, a pointer or a name; a look-up is the URI's place and its fragment. `keeps_references` puts them together.
use Rattle.std.proofs.Common.{◌≡◌, ℕ, Bool, true, false, not, cond, ◌&&◌, ◌||◌, ◌==◌, eqb-true, List, [], ◌∷◌, ◌++◌, flat_map, filter, length, Option, Some, None, Result, Ok, Err, ok_or, bytes_eq, ◌⊎◌, inl, inr, ⊎_elim, refl, sym, ap, subst, ◌∙◌, true≢false, arith}
use Rattle.std.specs.List.{AllByRecursion, Contains, last_or, list_any}
use Rattle.std.specs.Option.{unwrap_or}
use Rattle.serde_json.specs.Data.{Data}
use Rattle.ref_draft.specs.declared.draft.Draft.{Draft}
use Rattle.ref_draft.specs.Anchors.{Kind, Plain, Dynamic, anchors}
use Rattle.ref_draft.specs.Schema.{identifier, trimmed_text}
use Rattle.ref_uri.specs.Targets.{Refusal, uri_against, target, fragment_part}
use Rattle.ref_definitions.specs.Results.{◌>>=◌}
use Rattle.ref_definitions.specs.World.{Document, Layer, World}
use Rattle.ref_definitions.specs.Places.{Place, root, base_within}
use Rattle.ref_definitions.specs.Resources.{meant_place}
use Rattle.ref_definitions.specs.Anchors.{Named, anchor}
use Rattle.ref_definitions.specs.Fault.{Fault, as_invalid_uri, not_retrieved}
use Rattle.ref_definitions.specs.Pointers.{pointed_value}
use Rattle.ref_definitions.specs.Lookup.{Resolver, Found, moved_resolver, in_scope, fault_of, entry_of, is_dynamic, unless_fault, entry_found, outermost, by_scope, named_found, pointer_found, at_fragment, lookup}
use Rattle.ref_bundle.specs.Embedding.{base_uri, embedded_tree, is_uri_of, has_dynamic_anchor}
use Rattle.ref_bundle.specs.Bundle.{Bundle, is_name, uris_of, to_embed, bundle_of}
use Rattle.ref_bundle_laws.specs.Kept.{world_of_bundle, place_in, IsValueNow, the_same, an_embedded, the_root, IsAnswerNow, PointsToDefinitions, IsBorneByNeeded, IsBundle, KeepsReferences, KeepsFurtherReferences}
use Rattle.ref_bundle_laws.proofs.LawAlike.{AreAlike, BothAlike, last_alike, alike_append}
use Rattle.ref_bundle_laws.proofs.LawEmbedded.{identifier_embedded, given_back, uri_given}
use Rattle.ref_bundle_laws.proofs.LawPut.{IsEmbeddable, embeddable, draft_embedded}
use Rattle.ref_bundle_laws.proofs.LawTop.{identifier_top}
use Rattle.ref_bundle_laws.proofs.LawPlaces.{joined}
use Rattle.ref_bundle_laws.proofs.LawClosed.{or_first, or_second}
use Rattle.ref_bundle_laws.proofs.LawBundled.{none_in, no_obstacle}
use Rattle.ref_bundle_laws.proofs.LawFacts.{IsMade, made, embedded_needed, put_of, room}
use Rattle.ref_bundle_laws.proofs.LawAnchors.{IsNowUnder, same_under, embedded_under, root_under, IsFoundNow, found_same, found_embedded, found_root, NameFound, ResultAlike, IsSafe, Meaning, nothing, of_own, of_parent, meaning, anchor_now}
use Rattle.ref_bundle_laws.proofs.LawPointers.{AnswerOf, IsApart, LeadsToDefinitions, equal_answer, embedded_pointed, root_pointed}
use Rattle.ref_bundle_laws.proofs.LawSafe.{IsUnadded, IsSafeTarget, safe_scope, safe_base, safe_known, reference_there, safe_target}
use Rattle.ref_bundle_laws.proofs.LawClear.{IsClearReference, place_reference, seen_reference}
use Rattle.ref_definitions.proofs.Lists.{first_or_later, all_of}
use Rattle.ref_bundle.specs.Needed.{Further}

-- what is known of an embedded document
able_of : (layer : Layer) (fs : Further) (n : ℕ) (top : Document) → IsMade layer fs n top → (e : ℕ × Document) → Contains (to_embed layer fs n) e → IsEmbeddable top e.1
able_of layer fs n top is e there =
    let need = embedded_needed layer fs n e there in
    embeddable top e.1 (no_obstacle layer fs is.world n top e (none_in layer fs is.world n top e is.unrefused need.0) need.1)

-- ---- values and drafts

record IsPlaceNow (layer : Layer) (fs : Further) (n : ℕ) (top : Document) (base : List ℕ) (q p : Place) : Type 0 where
  value : IsValueNow layer fs n top (bundle_of top (to_embed layer fs n)) base q.value p.value
  draft : q.draft ≡ p.draft

same_now : (layer : Layer) (fs : Further) (n : ℕ) (top : Document) (base : List ℕ) (q p : Place) → q.value ≡ p.value → q.draft ≡ p.draft → IsPlaceNow layer fs n top base q p
same_now layer fs n top base q p v d = record { value = the_same v; draft = d }

embedded_now : (layer : Layer) (fs : Further) (n : ℕ) (top : Document) → IsMade layer fs n top → (base : List ℕ) (e : ℕ × Document) (q p : Place) → Contains (to_embed layer fs n) e → q ≡ place_in top e.1 → p ≡ root e.1 → base ≡ base_uri e.1 → IsPlaceNow layer fs n top base q p
embedded_now layer fs n top is base e q p there now before at = record {
  value = an_embedded e there at (ap (λ (x : Place). x.value) now) (ap (λ (x : Place). x.value) before);
  draft = ap (λ (x : Place). x.draft) now ∙ (put_of layer fs n top is e there).same_draft ∙ sym (ap (λ (x : Place). x.draft) before);
}

-- a base that answers at the root have: a URI of the root, or what its identifier gives against one
record IsRootBase (top : Document) (base : List ℕ) : Type 0 where
  uri : List ℕ
  bears : Contains (uris_of top (root top)) uri
  is : (base ≡ uri) ⊎ (base_within uri (identifier top.draft top.tree) ≡ Ok base)

root_now : (layer : Layer) (fs : Further) (n : ℕ) (top : Document) (base : List ℕ) (q p : Place) → q ≡ root (joined top (to_embed layer fs n)) → p ≡ root top → IsRootBase top base → IsPlaceNow layer fs n top base q p
root_now layer fs n top base q p now before at = record {
  value = the_root at.uri at.bears at.is (ap (λ (x : Place). x.value) now) (ap (λ (x : Place). x.value) before);
  draft = ap (λ (x : Place). x.draft) now ∙ sym (ap (λ (x : Place). x.draft) before);
}

found_now : (layer : Layer) (fs : Further) (n : ℕ) (top : Document) → IsMade layer fs n top → (uri name : List ℕ) (kind : Kind) (q p : Place) → IsFoundNow top (to_embed layer fs n) uri name kind q p → IsPlaceNow layer fs n top uri q p
found_now layer fs n top is uri name kind q p (found_same v d) = same_now layer fs n top uri q p v d
found_now layer fs n top is uri name kind q p (found_embedded e there now before at anchored) = embedded_now layer fs n top is uri e q p there now before at
found_now layer fs n top is uri name kind q p (found_root now before bears) = root_now layer fs n top uri q p now before (record { uri = uri; bears = bears; is = inl refl })

under_now : (layer : Layer) (fs : Further) (n : ℕ) (top : Document) → IsMade layer fs n top → (uri : List ℕ) (q p : Place) → IsNowUnder top (to_embed layer fs n) uri q p → IsPlaceNow layer fs n top uri q p
under_now layer fs n top is uri q p (same_under v d b) = same_now layer fs n top uri q p v d
under_now layer fs n top is uri q p (embedded_under e there now before at) = embedded_now layer fs n top is uri e q p there now before at
under_now layer fs n top is uri q p (root_under now before bears) = root_now layer fs n top uri q p now before (record { uri = uri; bears = bears; is = inl refl })

-- ---- a place that a dynamic anchor names

dynamic_there : (names : List (List ℕ × Kind)) (name : List ℕ) (kind : Kind) → Contains names (name, kind) → is_dynamic kind ≡ true → list_any (λ a. is_dynamic a.1) names ≡ true
dynamic_there [] name kind there is = absurd (omega (arith, there.1))
dynamic_there (a ∷ names) name kind there is =
    ⊎_elim
    (λ same. or_first (is_dynamic a.1) (list_any (λ x. is_dynamic x.1) names) (ap (λ (x : List ℕ × Kind). is_dynamic x.1) same ∙ is))
    (λ later. or_second (is_dynamic a.1) (list_any (λ x. is_dynamic x.1) names) (dynamic_there names name kind later is))
    (first_or_later a names (name, kind) there)

unmoved_by : (a b : Bool) → (a && not b) ≡ false → a ≡ true → b ≡ true
unmoved_by true true none is = refl
unmoved_by true false none is = absurd (true≢false none)
unmoved_by false b none is = absurd (true≢false (sym is))

-- the identifier of an embedded document with a dynamic anchor gives its base against that
settled_base : (layer : Layer) (fs : Further) (n : ℕ) (top : Document) → IsMade layer fs n top → (e : ℕ × Document) (name : List ℕ) (kind : Kind) → Contains (to_embed layer fs n) e → Contains (anchors e.1.draft e.1.tree) (name, kind) → is_dynamic kind ≡ true
    → base_within (base_uri e.1) (identifier e.1.draft e.1.tree) ≡ Ok (base_uri e.1)
settled_base layer fs n top is e name kind there anchored dynamic =
    let d = e.1 in
    uri_given (base_within (base_uri d) (identifier d.draft d.tree)) (base_uri d)
    (unmoved_by (has_dynamic_anchor d) (is_uri_of (base_within (base_uri d) (identifier d.draft d.tree)) (base_uri d)) (able_of layer fs n top is e there).settled (dynamic_there (anchors d.draft d.tree) name kind anchored dynamic))

-- its identifier against the URI that it was found under gives the same
base_now : (layer : Layer) (fs : Further) (n : ℕ) (top : Document) → IsMade layer fs n top → (uri name : List ℕ) (kind : Kind) (q p : Place) → IsFoundNow top (to_embed layer fs n) uri name kind q p → is_dynamic kind ≡ true
    → base_within uri (identifier q.draft q.value) ≡ base_within uri (identifier p.draft p.value)
base_now layer fs n top is uri name kind q p (found_same v d) dynamic = ap (λ x. base_within uri (identifier x q.value)) d ∙ ap (λ x. base_within uri (identifier p.draft x)) v
base_now layer fs n top is uri name kind q p (found_root now before bears) dynamic =
    ap (λ (x : Place). base_within uri (identifier x.draft x.value)) now ∙ ap (base_within uri) (identifier_top top (to_embed layer fs n)) ∙ sym (ap (λ (x : Place). base_within uri (identifier x.draft x.value)) before)
base_now layer fs n top is uri name kind q p (found_embedded e there now before at anchored) dynamic =
    let able = able_of layer fs n top is e there in
    let d = e.1 in
    let kept = settled_base layer fs n top is e name kind there anchored dynamic in
    let id : identifier (place_in top d).draft (embedded_tree top.draft d) ≡ Some (trimmed_text (base_uri d)) =
    ap (λ x. identifier x (embedded_tree top.draft d)) (draft_embedded top.draft d able.object able.keeps_draft) ∙ identifier_embedded top.draft top d able in
    ap (λ (x : Place). base_within uri (identifier x.draft x.value)) now
    ∙ ap (base_within uri) id
    ∙ ap (λ u. uri_against u (trimmed_text (base_uri d))) at
    ∙ given_back (base_uri d) (base_uri d) able.kept_itself
    ∙ sym kept
    ∙ ap (λ u. base_within u (identifier d.draft d.tree)) (sym at)
    ∙ sym (ap (λ (x : Place). base_within uri (identifier x.draft x.value)) before)

-- and that is the base of the answer
place_at : (layer : Layer) (fs : Further) (n : ℕ) (top : Document) → IsMade layer fs n top → (uri name base : List ℕ) (kind : Kind) (q p : Place) → IsFoundNow top (to_embed layer fs n) uri name kind q p → is_dynamic kind ≡ true
    → base_within uri (identifier p.draft p.value) ≡ Ok base → IsPlaceNow layer fs n top base q p
place_at layer fs n top is uri name base kind q p (found_same v d) dynamic given = same_now layer fs n top base q p v d
place_at layer fs n top is uri name base kind q p (found_root now before bears) dynamic given =
    root_now layer fs n top base q p now before (record { uri = uri; bears = bears; is = inr (sym (ap (λ (x : Place). base_within uri (identifier x.draft x.value)) before) ∙ given) })
place_at layer fs n top is uri name base kind q p (found_embedded e there now before at anchored) dynamic given =
    let d = e.1 in
    let own : Ok (base_uri d) ≡ Ok base =
    sym (settled_base layer fs n top is e name kind there anchored dynamic) ∙ ap (λ u. base_within u (identifier d.draft d.tree)) (sym at)
    ∙ sym (ap (λ (x : Place). base_within uri (identifier x.draft x.value)) before) ∙ given in
    let same : base_uri d ≡ base = cc in
    embedded_now layer fs n top is base e q p there now before (sym same)

-- the answer of an entry
abbrev entry_answer : Resolver → Result (List ℕ) Refusal → Draft → Data → Result Found Fault
entry_answer r base draft value = as_invalid_uri (base >>= λ b. Ok (record r { base = b })) >>= λ m. Ok (record { value = value; draft = draft; resolver = m })

entry_by : (layer : Layer) (fs : Further) (n : ℕ) (top : Document) (bundle : Bundle) (r : Resolver) (base : Result (List ℕ) Refusal) (d e : Draft) (w v : Data) → d ≡ e → ((b : List ℕ) → base ≡ Ok b → IsValueNow layer fs n top bundle b w v) → IsAnswerNow layer fs n top bundle (entry_answer r base d w) (entry_answer r base e v)
entry_by layer fs n top bundle r (Ok base) d e w v drafts value = (value base refl, drafts, refl)
entry_by layer fs n top bundle r (Err refusal) d e w v drafts value = refl

-- entries under one URI, of one name
abbrev EntryFound : Document → List (ℕ × Document) → List ℕ × Named → List ℕ × Named → Type 0
EntryFound top es a b = (a.0 ≡ b.0) × NameFound top es a.0 a.1 b.1

abbrev DynamicFound : Document → List (ℕ × Document) → List ℕ × Named → List ℕ × Named → Type 0
DynamicFound top es a b = (a.0 ≡ b.0) × NameFound top es a.0 a.1 b.1 × (is_dynamic a.1.kind ≡ true)

entry_now : (layer : Layer) (fs : Further) (n : ℕ) (top : Document) → IsMade layer fs n top → (r : Resolver) (a b : List ℕ × Named) → DynamicFound top (to_embed layer fs n) a b
    → IsAnswerNow layer fs n top (bundle_of top (to_embed layer fs n)) (entry_found r a) (entry_found r b)
entry_now layer fs n top is r a b both =
    let place = found_now layer fs n top is a.0 a.1.name a.1.kind a.1.place b.1.place both.1.place in
    let bases : base_within a.0 (identifier a.1.place.draft a.1.place.value) ≡ base_within b.0 (identifier b.1.place.draft b.1.place.value) =
    base_now layer fs n top is a.0 a.1.name a.1.kind a.1.place b.1.place both.1.place both.2 ∙ ap (λ u. base_within u (identifier b.1.place.draft b.1.place.value)) both.0 in
    let r_now = record r { base = a.0 } in
    let r_before = record r { base = b.0 } in
    subst (λ x. IsAnswerNow layer fs n top (bundle_of top (to_embed layer fs n)) (entry_answer r_now x a.1.place.draft a.1.place.value) (entry_answer r_before (base_within b.0 (identifier b.1.place.draft b.1.place.value)) b.1.place.draft b.1.place.value)) (sym bases)
    (subst (λ u. IsAnswerNow layer fs n top (bundle_of top (to_embed layer fs n)) (entry_answer (record r { base = u }) (base_within b.0 (identifier b.1.place.draft b.1.place.value)) a.1.place.draft a.1.place.value) (entry_answer r_before (base_within b.0 (identifier b.1.place.draft b.1.place.value)) b.1.place.draft b.1.place.value)) (sym both.0)
    (entry_by layer fs n top (bundle_of top (to_embed layer fs n)) r_before (base_within b.0 (identifier b.1.place.draft b.1.place.value)) a.1.place.draft b.1.place.draft a.1.place.value b.1.place.value place.draft
    (λ base given. (place_at layer fs n top is a.0 a.1.name base a.1.kind a.1.place b.1.place both.1.place both.2 (ap (λ u. base_within u (identifier b.1.place.draft b.1.place.value)) both.0 ∙ given)).value)))

-- ---- what a name means in a scope

abbrev MeaningAlike : Document → List (ℕ × Document) → List ℕ × Result Named Fault → List ℕ × Result Named Fault → Type 0
MeaningAlike top es a b = (a.0 ≡ b.0) × ResultAlike (NameFound top es a.0) a.1 b.1

same_faults_by : (top : Document) (es : List (ℕ × Document)) (u v : List ℕ) (x y : Result Named Fault) → u ≡ v → ResultAlike (NameFound top es u) x y → fault_of (u, x) ≡ fault_of (v, y)
same_faults_by top es u v (Ok m) (Ok k) same both = refl
same_faults_by top es u v (Ok m) (Err f) same both = absurd both
same_faults_by top es u v (Err f) (Ok k) same both = absurd both
same_faults_by top es u v (Err f) (Err g) same both = ap (λ x. fault_of (x, Err f)) same ∙ ap (λ x. fault_of (v, Err x)) both

same_faults : (top : Document) (es : List (ℕ × Document)) (xs ys : List (List ℕ × Result Named Fault)) → AreAlike (MeaningAlike top es) xs ys → flat_map fault_of xs ≡ flat_map fault_of ys
same_faults top es [] [] each = refl
same_faults top es [] (y ∷ ys) each = absurd each
same_faults top es (x ∷ xs) [] each = absurd each
same_faults top es (x ∷ xs) (y ∷ ys) each =
    ap (λ fs. fs ++ flat_map fault_of xs) (same_faults_by top es x.0 y.0 x.1 y.1 each.0.0 each.0.1) ∙ ap (λ fs. fault_of y ++ fs) (same_faults top es xs ys each.1)

entries_alike_by : (top : Document) (es : List (ℕ × Document)) (u v : List ℕ) (x y : Result Named Fault) → u ≡ v → ResultAlike (NameFound top es u) x y → AreAlike (EntryFound top es) (entry_of (u, x)) (entry_of (v, y))
entries_alike_by top es u v (Ok m) (Ok k) same both = ((same, both), tt)
entries_alike_by top es u v (Ok m) (Err f) same both = absurd both
entries_alike_by top es u v (Err f) (Ok k) same both = absurd both
entries_alike_by top es u v (Err f) (Err g) same both = tt

entries_alike : (top : Document) (es : List (ℕ × Document)) (xs ys : List (List ℕ × Result Named Fault)) → AreAlike (MeaningAlike top es) xs ys → AreAlike (EntryFound top es) (flat_map entry_of xs) (flat_map entry_of ys)
entries_alike top es [] [] each = tt
entries_alike top es [] (y ∷ ys) each = absurd each
entries_alike top es (x ∷ xs) [] each = absurd each
entries_alike top es (x ∷ xs) (y ∷ ys) each =
    alike_append (EntryFound top es) (entry_of x) (flat_map entry_of xs) (entry_of y) (flat_map entry_of ys) (entries_alike_by top es x.0 y.0 x.1 y.1 each.0.0 each.0.1) (entries_alike top es xs ys each.1)

dynamic_kept : (top : Document) (es : List (ℕ × Document)) (a b : List ℕ × Named) (xs ys : List (List ℕ × Named)) (c d : Bool) → is_dynamic a.1.kind ≡ c → c ≡ d → EntryFound top es a b → AreAlike (DynamicFound top es) xs ys → AreAlike (DynamicFound top es) (cond c (a ∷ xs) xs) (cond d (b ∷ ys) ys)
dynamic_kept top es a b xs ys true true is same both rest = ((both.0, both.1, is), rest)
dynamic_kept top es a b xs ys true false is same both rest = absurd (true≢false same)
dynamic_kept top es a b xs ys false true is same both rest = absurd (true≢false (sym same))
dynamic_kept top es a b xs ys false false is same both rest = rest

dynamics_alike : (top : Document) (es : List (ℕ × Document)) (xs ys : List (List ℕ × Named)) → AreAlike (EntryFound top es) xs ys → AreAlike (DynamicFound top es) (filter (λ e. is_dynamic e.1.kind) xs) (filter (λ e. is_dynamic e.1.kind) ys)
dynamics_alike top es [] [] each = tt
dynamics_alike top es [] (y ∷ ys) each = absurd each
dynamics_alike top es (x ∷ xs) [] each = absurd each
dynamics_alike top es (x ∷ xs) (y ∷ ys) each =
    dynamic_kept top es x y (filter (λ e. is_dynamic e.1.kind) xs) (filter (λ e. is_dynamic e.1.kind) ys) (is_dynamic x.1.kind) (is_dynamic y.1.kind) refl (ap is_dynamic each.0.1.kind) each.0 (dynamics_alike top es xs ys each.1)

last_or_first : (top : Document) (es : List (ℕ × Document)) (a b : Option (List ℕ × Named)) (x y : List ℕ × Named) → BothAlike (DynamicFound top es) a b → DynamicFound top es x y → DynamicFound top es (unwrap_or a x) (unwrap_or b y)
last_or_first top es None None x y both first = first
last_or_first top es None (Some b) x y both first = absurd both
last_or_first top es (Some a) None x y both first = absurd both
last_or_first top es (Some a) (Some b) x y both first = both

faults_first : (layer : Layer) (further : Further) (n : ℕ) (top : Document) (bundle : Bundle) (fs gs : List Fault) (a b : Result Found Fault) → fs ≡ gs → IsAnswerNow layer further n top bundle a b → IsAnswerNow layer further n top bundle (unless_fault fs a) (unless_fault gs b)
faults_first layer further n top bundle [] [] a b same both = both
faults_first layer further n top bundle [] (g ∷ gs) a b same both = absurd (let e : [] ≡ g ∷ gs = same in cc)
faults_first layer further n top bundle (f ∷ fs) [] a b same both = absurd (let e : f ∷ fs ≡ [] = same in cc)
faults_first layer further n top bundle (f ∷ fs) (g ∷ gs) a b same both = let e : f ∷ fs ≡ g ∷ gs = same in cc

by_scope_now : (layer : Layer) (fs : Further) (n : ℕ) (top : Document) → IsMade layer fs n top → (r : Resolver) (m k : Named) (xs ys : List (List ℕ × Result Named Fault)) → NameFound top (to_embed layer fs n) r.base m k → is_dynamic m.kind ≡ true → AreAlike (MeaningAlike top (to_embed layer fs n)) xs ys
    → IsAnswerNow layer fs n top (bundle_of top (to_embed layer fs n)) (by_scope r m xs) (by_scope r k ys)
by_scope_now layer fs n top is r m k xs ys first dynamic each =
    let es = to_embed layer fs n in
    faults_first layer fs n top (bundle_of top es) (flat_map fault_of xs) (flat_map fault_of ys) (entry_found r (outermost (r.base, m) (flat_map entry_of xs))) (entry_found r (outermost (r.base, k) (flat_map entry_of ys)))
    (same_faults top es xs ys each)
    (entry_now layer fs n top is r (outermost (r.base, m) (flat_map entry_of xs)) (outermost (r.base, k) (flat_map entry_of ys))
    (last_or_first top es (last_or None (filter (λ e. is_dynamic e.1.kind) (flat_map entry_of xs))) (last_or None (filter (λ e. is_dynamic e.1.kind) (flat_map entry_of ys))) (r.base, m) (r.base, k)
    (last_alike (DynamicFound top es) (filter (λ e. is_dynamic e.1.kind) (flat_map entry_of xs)) (filter (λ e. is_dynamic e.1.kind) (flat_map entry_of ys)) (dynamics_alike top es (flat_map entry_of xs) (flat_map entry_of ys) (entries_alike top es xs ys each)))
    (refl, first, dynamic)))

scope_now : (layer : Layer) (fs : Further) (parents : World) (n : ℕ) (top : Document) → IsMade layer fs n top → (name : List ℕ) (scope : List (List ℕ)) → AllByRecursion (IsSafe layer fs parents n top) scope
    → AreAlike (MeaningAlike top (to_embed layer fs n)) (in_scope ((joined top (to_embed layer fs n) ∷ []) ∷ parents) name scope) (in_scope (layer ∷ parents) name scope)
scope_now layer fs parents n top is name [] safe = tt
scope_now layer fs parents n top is name (uri ∷ scope) safe = ((refl, anchor_now layer fs parents n top is uri name safe.0), scope_now layer fs parents n top is name scope safe.1)

-- ---- a named place

named_by_kind : (layer : Layer) (fs : Further) (parents : World) (n : ℕ) (top : Document) → IsMade layer fs n top → (r : Resolver) → AllByRecursion (IsSafe layer fs parents n top) r.scope → (m k : Named) (kind : Kind) → m.kind ≡ kind → NameFound top (to_embed layer fs n) r.base m k
    → IsAnswerNow layer fs n top (bundle_of top (to_embed layer fs n)) (named_found ((joined top (to_embed layer fs n) ∷ []) ∷ parents) r m kind) (named_found (layer ∷ parents) r k kind)
named_by_kind layer fs parents n top is r safe m k Plain own both =
    let place = found_now layer fs n top is r.base m.name m.kind m.place k.place both.place in (place.value, place.draft, refl)
named_by_kind layer fs parents n top is r safe m k Dynamic own both =
    subst (λ name. IsAnswerNow layer fs n top (bundle_of top (to_embed layer fs n)) (by_scope r m (in_scope ((joined top (to_embed layer fs n) ∷ []) ∷ parents) m.name r.scope)) (by_scope r k (in_scope (layer ∷ parents) name r.scope))) both.name
    (by_scope_now layer fs n top is r m k (in_scope ((joined top (to_embed layer fs n) ∷ []) ∷ parents) m.name r.scope) (in_scope (layer ∷ parents) m.name r.scope) both (ap is_dynamic own) (scope_now layer fs parents n top is m.name r.scope safe))

anchor_answer : (layer : Layer) (fs : Further) (parents : World) (n : ℕ) (top : Document) → IsMade layer fs n top → (r : Resolver) → AllByRecursion (IsSafe layer fs parents n top) r.scope → (a b : Result Named Fault) → ResultAlike (NameFound top (to_embed layer fs n) r.base) a b
    → IsAnswerNow layer fs n top (bundle_of top (to_embed layer fs n)) (a >>= λ m. named_found ((joined top (to_embed layer fs n) ∷ []) ∷ parents) r m m.kind) (b >>= λ k. named_found (layer ∷ parents) r k k.kind)
anchor_answer layer fs parents n top is r safe (Ok m) (Ok k) both =
    subst (λ kind. IsAnswerNow layer fs n top (bundle_of top (to_embed layer fs n)) (named_found ((joined top (to_embed layer fs n) ∷ []) ∷ parents) r m m.kind) (named_found (layer ∷ parents) r k kind)) both.kind
    (named_by_kind layer fs parents n top is r safe m k m.kind refl both)
anchor_answer layer fs parents n top is r safe (Ok m) (Err f) both = absurd both
anchor_answer layer fs parents n top is r safe (Err f) (Ok k) both = absurd both
anchor_answer layer fs parents n top is r safe (Err f) (Err g) both = both

-- ---- a pointer

-- a pointer from the root that leads to its definitions
abbrev IsFrom : Layer → Further → ℕ → Document → Resolver → Place → List ℕ → Result Found Fault → Result Found Fault → Type 0
IsFrom layer fs n top r p fragment now before = (p ≡ root top) × LeadsToDefinitions layer fs n top r fragment now before

abbrev IsPlaceAnswer : Layer → Further → ℕ → Document → Resolver → Place → List ℕ → Result Found Fault → Result Found Fault → Type 0
IsPlaceAnswer layer fs n top r p fragment now before = IsAnswerNow layer fs n top (bundle_of top (to_embed layer fs n)) now before ⊎ IsFrom layer fs n top r p fragment now before

-- what is known of a fragment: it leads to nothing that is added
record IsKeptFragment (layer : Layer) (fs : Further) (n : ℕ) (top : Document) (uri fragment : List ℕ) : Type 0 where
  unadded : IsUnadded layer fs n top uri fragment
  apart : Contains (uris_of top (root top)) uri → IsApart layer fs n top fragment

pointed_now : (layer : Layer) (fs : Further) (n : ℕ) (top : Document) → IsMade layer fs n top → (r : Resolver) (uri text : List ℕ) → r.base ≡ uri → (q p : Place) → IsNowUnder top (to_embed layer fs n) uri q p → IsKeptFragment layer fs n top uri (47 ∷ text)
    → IsPlaceAnswer layer fs n top r p (47 ∷ text) (AnswerOf r q.draft (pointed_value q.draft (47 ∷ text) r.base q.value text)) (AnswerOf r p.draft (pointed_value p.draft (47 ∷ text) r.base p.value text))
pointed_now layer fs n top is r uri text own q p (same_under v d b) kept =
    inl (equal_answer layer fs n top (bundle_of top (to_embed layer fs n)) _ _
    (ap (λ x. AnswerOf r x (pointed_value x (47 ∷ text) r.base q.value text)) d ∙ ap (λ x. AnswerOf r p.draft (pointed_value p.draft (47 ∷ text) r.base x text)) v))
pointed_now layer fs n top is r uri text own q p (embedded_under e there now before at) kept =
    let bundle = bundle_of top (to_embed layer fs n) in
    let answer = λ (x : Place). AnswerOf r x.draft (pointed_value x.draft (47 ∷ text) r.base x.value text) in
    let here : answer q ≡ AnswerOf r e.1.draft (pointed_value e.1.draft (47 ∷ text) r.base (embedded_tree top.draft e.1) text) =
    ap answer now ∙ ap (λ x. AnswerOf r x (pointed_value x (47 ∷ text) r.base (embedded_tree top.draft e.1) text)) (put_of layer fs n top is e there).same_draft in
    inl (subst (λ a. IsAnswerNow layer fs n top bundle a (answer p)) (sym here)
    (subst (λ x. IsAnswerNow layer fs n top bundle (AnswerOf r e.1.draft (pointed_value e.1.draft (47 ∷ text) r.base (embedded_tree top.draft e.1) text)) (answer x)) (sym before)
    (embedded_pointed layer fs n top bundle e there (able_of layer fs n top is e there) r (47 ∷ text) r.base text (own ∙ at) (λ key first. kept.unadded e there at key first))))
pointed_now layer fs n top is r uri text own q p (root_under now before bears) kept =
    let es = to_embed layer fs n in
    let bundle = bundle_of top es in
    let answer = λ (x : Place). AnswerOf r x.draft (pointed_value x.draft (47 ∷ text) r.base x.value text) in
    subst (λ x. IsPlaceAnswer layer fs n top r p (47 ∷ text) (answer x) (answer p)) (sym now)
    (subst (λ x. IsAnswerNow layer fs n top bundle (answer (root (joined top es))) (answer x) ⊎ IsFrom layer fs n top r p (47 ∷ text) (answer (root (joined top es))) (answer x)) (sym before)
    (⊎_elim
    (λ same. inl same)
    (λ leads. inr (before, leads))
    (root_pointed layer fs n top es refl (room layer fs n top is) (all_of (λ e. IsEmbeddable top e.1) es (able_of layer fs n top is)) r (subst (Contains (uris_of top (root top))) (sym own) bears) text (kept.apart bears))))

-- ---- a fragment

by_mark : (layer : Layer) (fs : Further) (parents : World) (n : ℕ) (top : Document) → IsMade layer fs n top → (r : Resolver) → AllByRecursion (IsSafe layer fs parents n top) r.scope → (uri : List ℕ) → r.base ≡ uri → (q p : Place) → IsNowUnder top (to_embed layer fs n) uri q p
    → (c : ℕ) (text : List ℕ) → (is_name (c ∷ text) ≡ true → IsSafe layer fs parents n top r.base) → IsKeptFragment layer fs n top uri (c ∷ text) → (b : Bool) → (c == 47) ≡ b
    → IsPlaceAnswer layer fs n top r p (c ∷ text)
    (cond b (pointed_value q.draft (c ∷ text) r.base q.value text >>= λ to. Ok (pointer_found r q.draft to)) (anchor ((joined top (to_embed layer fs n) ∷ []) ∷ parents) r.base (c ∷ text) >>= λ m. named_found ((joined top (to_embed layer fs n) ∷ []) ∷ parents) r m m.kind))
    (cond b (pointed_value p.draft (c ∷ text) r.base p.value text >>= λ to. Ok (pointer_found r p.draft to)) (anchor (layer ∷ parents) r.base (c ∷ text) >>= λ k. named_found (layer ∷ parents) r k k.kind))
by_mark layer fs parents n top is r safe uri own q p now c text named kept true mark =
    let slash : c ≡ 47 = eqb-true c 47 mark in
    subst (λ d. IsPlaceAnswer layer fs n top r p (d ∷ text) (AnswerOf r q.draft (pointed_value q.draft (d ∷ text) r.base q.value text)) (AnswerOf r p.draft (pointed_value p.draft (d ∷ text) r.base p.value text))) (sym slash)
    (pointed_now layer fs n top is r uri text own q p now (subst (λ d. IsKeptFragment layer fs n top uri (d ∷ text)) slash kept))
by_mark layer fs parents n top is r safe uri own q p now c text named kept false mark =
    inl (anchor_answer layer fs parents n top is r safe (anchor ((joined top (to_embed layer fs n) ∷ []) ∷ parents) r.base (c ∷ text)) (anchor (layer ∷ parents) r.base (c ∷ text)) (anchor_now layer fs parents n top is r.base (c ∷ text) (named (ap not mark))))

fragment_now : (layer : Layer) (fs : Further) (parents : World) (n : ℕ) (top : Document) → IsMade layer fs n top → (r : Resolver) → AllByRecursion (IsSafe layer fs parents n top) r.scope → (uri : List ℕ) → r.base ≡ uri → (q p : Place) → IsNowUnder top (to_embed layer fs n) uri q p
    → (fragment : List ℕ) → (is_name fragment ≡ true → IsSafe layer fs parents n top r.base) → IsKeptFragment layer fs n top uri fragment
    → IsPlaceAnswer layer fs n top r p fragment (at_fragment ((joined top (to_embed layer fs n) ∷ []) ∷ parents) r q fragment) (at_fragment (layer ∷ parents) r p fragment)
fragment_now layer fs parents n top is r safe uri own q p now [] named kept =
    let place = under_now layer fs n top is uri q p now in
    inl (subst (λ base. IsValueNow layer fs n top (bundle_of top (to_embed layer fs n)) base q.value p.value) (sym own) place.value, place.draft, refl)
fragment_now layer fs parents n top is r safe uri own q p now (c ∷ text) named kept = by_mark layer fs parents n top is r safe uri own q p now c text named kept (c == 47) refl

-- ---- the look-up

moved_safe_by : (layer : Layer) (fs : Further) (parents : World) (n : ℕ) (top : Document) (base : List ℕ) (scope : List (List ℕ)) (b : Bool) → IsSafe layer fs parents n top base → AllByRecursion (IsSafe layer fs parents n top) scope → AllByRecursion (IsSafe layer fs parents n top) (cond b (base ∷ scope) scope)
moved_safe_by layer fs parents n top base scope true own safe = (own, safe)
moved_safe_by layer fs parents n top base scope false own safe = safe

-- a reference whose pointer leads to the root's definitions
record IsInto (layer : Layer) (fs : Further) (parents : World) (n : ℕ) (top : Document) (r : Resolver) (reference : List ℕ) (now before : Result Found Fault) : Type 0 where
  uri : List ℕ
  to : target r.base reference ≡ Ok uri
  place : Place
  meant : meant_place (layer ∷ parents) uri ≡ Some place
  leads : IsFrom layer fs n top (moved_resolver r uri) place (fragment_part reference) now before

abbrev IsOutcome : Layer → Further → World → ℕ → Document → Resolver → List ℕ → Result Found Fault → Result Found Fault → Type 0
IsOutcome layer fs parents n top r reference now before =
    IsAnswerNow layer fs n top (bundle_of top (to_embed layer fs n)) now before ⊎ IsInto layer fs parents n top r reference now before

placed_now : (layer : Layer) (fs : Further) (parents : World) (n : ℕ) (top : Document) → IsMade layer fs n top → (r : Resolver) (reference uri : List ℕ) → target r.base reference ≡ Ok uri → IsSafeTarget layer fs parents n top uri (fragment_part reference) → IsSafe layer fs parents n top r.base → AllByRecursion (IsSafe layer fs parents n top) r.scope
    → (q p : Place) → meant_place (layer ∷ parents) uri ≡ Some p → IsNowUnder top (to_embed layer fs n) uri q p
    → IsOutcome layer fs parents n top r reference (at_fragment ((joined top (to_embed layer fs n) ∷ []) ∷ parents) (moved_resolver r uri) q (fragment_part reference)) (at_fragment (layer ∷ parents) (moved_resolver r uri) p (fragment_part reference))
placed_now layer fs parents n top is r reference uri to safe own scope q p means_ place =
    let moved_scope = moved_safe_by layer fs parents n top r.base r.scope ((length r.scope == 0) || not (bytes_eq uri r.base)) own scope in
    ⊎_elim (λ answer. inl answer) (λ leads. inr (record { uri = uri; to = to; place = p; meant = means_; leads = leads }))
    (fragment_now layer fs parents n top is (moved_resolver r uri) moved_scope uri refl q p place (fragment_part reference) safe.named (record { unadded = safe.unadded; apart = safe.apart }))

meant_now : (layer : Layer) (fs : Further) (parents : World) (n : ℕ) (top : Document) → IsMade layer fs n top → (r : Resolver) (reference uri : List ℕ) → target r.base reference ≡ Ok uri → IsSafeTarget layer fs parents n top uri (fragment_part reference) → IsSafe layer fs parents n top r.base → AllByRecursion (IsSafe layer fs parents n top) r.scope
    → (a b : Option Place) → meant_place (layer ∷ parents) uri ≡ b → Meaning layer parents top (to_embed layer fs n) uri a b
    → IsOutcome layer fs parents n top r reference
    (ok_or a (not_retrieved uri) >>= λ place. at_fragment ((joined top (to_embed layer fs n) ∷ []) ∷ parents) (moved_resolver r uri) place (fragment_part reference))
    (ok_or b (not_retrieved uri) >>= λ place. at_fragment (layer ∷ parents) (moved_resolver r uri) place (fragment_part reference))
meant_now layer fs parents n top is r reference uri to safe own scope a b means_ (nothing now before) =
    inl (equal_answer layer fs n top (bundle_of top (to_embed layer fs n)) _ _
    (ap (λ o. ok_or o (not_retrieved uri) >>= λ place. at_fragment ((joined top (to_embed layer fs n) ∷ []) ∷ parents) (moved_resolver r uri) place (fragment_part reference)) now
    ∙ sym (ap (λ o. ok_or o (not_retrieved uri) >>= λ place. at_fragment (layer ∷ parents) (moved_resolver r uri) place (fragment_part reference)) before)))
meant_now layer fs parents n top is r reference uri to safe own scope a b means_ (of_own q p now before place found) =
    subst (λ o. IsOutcome layer fs parents n top r reference (ok_or o (not_retrieved uri) >>= λ x. at_fragment ((joined top (to_embed layer fs n) ∷ []) ∷ parents) (moved_resolver r uri) x (fragment_part reference)) (ok_or b (not_retrieved uri) >>= λ x. at_fragment (layer ∷ parents) (moved_resolver r uri) x (fragment_part reference))) (sym now)
    (subst (λ o. IsOutcome layer fs parents n top r reference (at_fragment ((joined top (to_embed layer fs n) ∷ []) ∷ parents) (moved_resolver r uri) q (fragment_part reference)) (ok_or o (not_retrieved uri) >>= λ x. at_fragment (layer ∷ parents) (moved_resolver r uri) x (fragment_part reference))) (sym before)
    (placed_now layer fs parents n top is r reference uri to safe own scope q p (means_ ∙ before) place))
meant_now layer fs parents n top is r reference uri to safe own scope a b means_ (of_parent p now before none outside) =
    subst (λ o. IsOutcome layer fs parents n top r reference (ok_or o (not_retrieved uri) >>= λ x. at_fragment ((joined top (to_embed layer fs n) ∷ []) ∷ parents) (moved_resolver r uri) x (fragment_part reference)) (ok_or b (not_retrieved uri) >>= λ x. at_fragment (layer ∷ parents) (moved_resolver r uri) x (fragment_part reference))) (sym now)
    (subst (λ o. IsOutcome layer fs parents n top r reference (at_fragment ((joined top (to_embed layer fs n) ∷ []) ∷ parents) (moved_resolver r uri) p (fragment_part reference)) (ok_or o (not_retrieved uri) >>= λ x. at_fragment (layer ∷ parents) (moved_resolver r uri) x (fragment_part reference))) (sym before)
    (placed_now layer fs parents n top is r reference uri to safe own scope p p (means_ ∙ before) (same_under refl refl refl)))

target_now : (layer : Layer) (fs : Further) (parents : World) (n : ℕ) (top : Document) → IsMade layer fs n top → (r : Resolver) (reference : List ℕ) → IsSafe layer fs parents n top r.base → AllByRecursion (IsSafe layer fs parents n top) r.scope
    → ((uri : List ℕ) → target r.base reference ≡ Ok uri → IsSafeTarget layer fs parents n top uri (fragment_part reference)) → (t : Result (List ℕ) Refusal) → target r.base reference ≡ t
    → IsOutcome layer fs parents n top r reference
    (as_invalid_uri t >>= λ uri. ok_or (meant_place ((joined top (to_embed layer fs n) ∷ []) ∷ parents) uri) (not_retrieved uri) >>= λ place. at_fragment ((joined top (to_embed layer fs n) ∷ []) ∷ parents) (moved_resolver r uri) place (fragment_part reference))
    (as_invalid_uri t >>= λ uri. ok_or (meant_place (layer ∷ parents) uri) (not_retrieved uri) >>= λ place. at_fragment (layer ∷ parents) (moved_resolver r uri) place (fragment_part reference))
target_now layer fs parents n top is r reference own scope safe (Ok uri) to =
    meant_now layer fs parents n top is r reference uri to (safe uri to) own scope (meant_place ((joined top (to_embed layer fs n) ∷ []) ∷ parents) uri) (meant_place (layer ∷ parents) uri) refl (meaning layer fs parents n top uri is (safe uri to).clear)
target_now layer fs parents n top is r reference own scope safe (Err refusal) to = inl refl

lookup_now : (layer : Layer) (fs : Further) (parents : World) (n : ℕ) (top : Document) → IsMade layer fs n top → (r : Resolver) (reference : List ℕ) → IsSafe layer fs parents n top r.base → AllByRecursion (IsSafe layer fs parents n top) r.scope
    → ((uri : List ℕ) → target r.base reference ≡ Ok uri → IsSafeTarget layer fs parents n top uri (fragment_part reference))
    → IsOutcome layer fs parents n top r reference (lookup ((joined top (to_embed layer fs n) ∷ []) ∷ parents) r reference) (lookup (layer ∷ parents) r reference)
unfolding lookup
lookup_now layer fs parents n top is r reference own scope safe = target_now layer fs parents n top is r reference own scope safe (target r.base reference) refl

scope_safe : (layer : Layer) (fs : Further) (parents : World) (n : ℕ) (top : Document) → IsMade layer fs n top → (scope : List (List ℕ)) → AllByRecursion (IsBorneByNeeded layer fs n) scope → AllByRecursion (IsSafe layer fs parents n top) scope
scope_safe layer fs parents n top is [] each = tt
scope_safe layer fs parents n top is (uri ∷ scope) each = (safe_scope layer fs parents n top is uri each.0, scope_safe layer fs parents n top is scope each.1)

to_definitions : (layer : Layer) (fs : Further) (parents : World) (n : ℕ) (top : Document) (r : Resolver) (reference : List ℕ) (now before : Result Found Fault) → IsInto layer fs parents n top r reference now before → PointsToDefinitions layer fs parents n top r reference now before
to_definitions layer fs parents n top r reference now before into = record {
  uri = into.uri;
  to = into.to;
  meant = into.meant ∙ ap (λ p. Some p) into.leads.0;
  pointer = into.leads.1.pointer;
  answers = into.leads.1.answers;
}

-- a reference whose base is safe is kept
kept_from : (layer : Layer) (fs : Further) (parents : World) (n : ℕ) (top : Document) (bundle : Bundle) → IsBundle layer fs parents n top bundle → (base reference : List ℕ) (scope : List (List ℕ))
    → ((is : IsMade layer fs n top) → IsSafe layer fs parents n top base) → ((is : IsMade layer fs n top) (uri : List ℕ) → target base reference ≡ Ok uri → IsClearReference layer fs n top is.world (record { uri = uri; fragment = fragment_part reference }))
    → AllByRecursion (IsBorneByNeeded layer fs n) scope
    → let r : Resolver = record { base = base; scope = scope } in
    IsAnswerNow layer fs n top bundle (lookup (world_of_bundle top bundle parents) r reference) (lookup (layer ∷ parents) r reference)
    ⊎ PointsToDefinitions layer fs parents n top r reference (lookup (world_of_bundle top bundle parents) r reference) (lookup (layer ∷ parents) r reference)
kept_from layer fs parents n top bundle is base reference scope safe clear borne_ =
    let both = made layer fs parents n top bundle is in
    let r : Resolver = record { base = base; scope = scope } in
    subst (λ b. IsAnswerNow layer fs n top b (lookup (world_of_bundle top b parents) r reference) (lookup (layer ∷ parents) r reference)
    ⊎ PointsToDefinitions layer fs parents n top r reference (lookup (world_of_bundle top b parents) r reference) (lookup (layer ∷ parents) r reference)) (sym both.2)
    (⊎_elim (λ answer. inl answer) (λ into. inr (to_definitions layer fs parents n top r reference _ _ into))
    (lookup_now layer fs parents n top both.0 r reference (safe both.0) (scope_safe layer fs parents n top both.0 scope borne_)
    (λ uri to. safe_target layer fs parents n top both.0 both.1 (record { uri = uri; fragment = fragment_part reference }) (clear both.0 uri to))))

-- a bundle keeps every reference
pub keeps_references : KeepsReferences
keeps_references layer fs parents n top bundle is e p base reference scope need there has refers borne_ =
    kept_from layer fs parents n top bundle is base reference scope
    (λ made_. safe_base layer fs parents n top made_ e p base need there has)
    (λ made_ uri to. place_reference layer fs n top made_ e p (record { uri = uri; fragment = fragment_part reference }) need there (reference_there p.base p.value base uri reference has refers to))
    borne_

-- and those of further places
pub keeps_further : KeepsFurtherReferences
keeps_further layer fs parents n top bundle is e s base reference scope need there has refers known borne_ =
    kept_from layer fs parents n top bundle is base reference scope
    (λ made_. safe_known layer fs parents n top made_ base known)
    (λ made_ uri to. seen_reference layer fs n top made_ e s (record { uri = uri; fragment = fragment_part reference }) need there (reference_there s.base s.value base uri reference has refers to))
    borne_
