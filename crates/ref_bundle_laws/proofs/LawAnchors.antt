-- What a name means under a URI of a bundle, with where it was found.
--
-- 1. Places with the URI that they were found under, before and now (`IsNowUnder`, `IsFoundNow`).
-- 2. A URI is safe where it means in the bundle what it meant, also where that is a place of a parent (`IsSafe`, `meaning`).
-- 3. A name is looked up under the URI itself, and then under the identifier of the place that it means: a place that has the URI
--    itself gives no other name, so both look-ups go to the places of one document.
-- 4. Under the root's base by any of its URIs; under a URI of no own document, by the parents; together `anchor_now`.
use Rattle.std.proofs.Common.{◌≡◌, ℕ, Bool, ◌&&◌, List, [], ◌∷◌, flat_map, filter, Option, Some, None, option_map, option_and_then, Result, Ok, Err, ok_or, bytes_eq, ◌⊎◌, inl, inr, ⊎_elim, refl, sym, ap, subst, ◌∙◌, append-nil, arith}
use Rattle.std.specs.List.{AllByRecursion, Contains, last_or}
use Rattle.std.specs.Option.{option_map_or, option_to_list, option_or}
use Rattle.std.specs.Result.{result_ok}
use Rattle.std.proofs.lemmas.Bool.{and_parts}
use Rattle.std.proofs.lemmas.Slice.Eq.{bytes_eq-Decides}
use Rattle.std.proofs.lemmas.List.Elements.{Contains-append_cases}
use Rattle.ref_draft.specs.Anchors.{Kind, anchors}
use Rattle.ref_draft.specs.Schema.{identifier}
use Rattle.ref_uri.specs.Targets.{Refusal}
use Rattle.ref_definitions.specs.World.{Document, Layer, World}
use Rattle.ref_definitions.specs.Places.{Place, root, identifier_of, places}
use Rattle.ref_definitions.specs.Resources.{own_uri, resource_of, resources_in, resources, last_under, meant_place}
use Rattle.ref_definitions.specs.Anchors.{Named, named_under, named_at, names_in, names, last_named, named_entry, named_by_identifier, not_named, anchor}
use Rattle.ref_bundle.specs.Needed.{Further, counted_documents}
use Rattle.ref_bundle.specs.Embedding.{base_uri}
use Rattle.ref_bundle.specs.Bundle.{uris_of, to_embed}
use Rattle.ref_bundle_laws.specs.Kept.{place_in}
use Rattle.ref_bundle_laws.proofs.LawAlike.{BothAlike, or_alike}
use Rattle.ref_bundle_laws.proofs.LawEntries.{Under, IsFree, free, each_none, filter_flat}
use Rattle.ref_bundle_laws.proofs.LawBorne.{IsPut}
use Rattle.ref_bundle_laws.proofs.LawEmbedded.{base_is}
use Rattle.ref_bundle_laws.proofs.LawTop.{identifier_top}
use Rattle.ref_bundle_laws.proofs.LawPlaces.{put_in, AllPut, joined, same_base}
use Rattle.ref_bundle_laws.proofs.LawNeeded.{last_kept, IsKeptThere, last_none}
use Rattle.ref_bundle_laws.proofs.LawClosed.{root_needed}
use Rattle.ref_bundle_laws.proofs.LawFacts.{IsMade, in_layer, root_base, root_counted, embedded_needed, needed_counted, others_free, all_put, made_places, base_borne, other_base_of}
use Rattle.ref_bundle_laws.proofs.LawMeaning.{weaker, IsNow, same, embedded_root, bundle_root, EntryNow, NameNow, IsClear, entries_now, names_now, no_names_were}
use Rattle.ref_bundle_laws.proofs.LawClear.{clear_borne, clear_free}
use Rattle.ref_definitions.proofs.Lists.{first_or_later, each_in, in_one_of, in_mapped, all_of}

-- ---- places, with the URI that they were found under

pub data IsNowUnder (top : Document) (es : List (ℕ × Document)) (uri : List ℕ) (q p : Place) : Type 0 where
  same_under : q.value ≡ p.value → q.draft ≡ p.draft → q.base ≡ p.base → IsNowUnder top es uri q p
  embedded_under : (e : ℕ × Document) → Contains es e → q ≡ place_in top e.1 → p ≡ root e.1 → uri ≡ base_uri e.1 → IsNowUnder top es uri q p
  root_under : q ≡ root (joined top es) → p ≡ root top → Contains (uris_of top (root top)) uri → IsNowUnder top es uri q p

-- the same, for a name
pub data IsFoundNow (top : Document) (es : List (ℕ × Document)) (uri name : List ℕ) (kind : Kind) (q p : Place) : Type 0 where
  found_same : q.value ≡ p.value → q.draft ≡ p.draft → IsFoundNow top es uri name kind q p
  found_embedded : (e : ℕ × Document) → Contains es e → q ≡ place_in top e.1 → p ≡ root e.1 → uri ≡ base_uri e.1 → Contains (anchors e.1.draft e.1.tree) (name, kind) → IsFoundNow top es uri name kind q p
  found_root : q ≡ root (joined top es) → p ≡ root top → Contains (uris_of top (root top)) uri → IsFoundNow top es uri name kind q p

pub record NameFound (top : Document) (es : List (ℕ × Document)) (uri : List ℕ) (m n : Named) : Type 0 where
  pub name : m.name ≡ n.name
  pub kind : m.kind ≡ n.kind
  pub place : IsFoundNow top es uri m.name m.kind m.place n.place

-- the root of a bundle is no embedded document
no_root : (top : Document) (es : List (ℕ × Document)) (q : Place) (e : ℕ × Document) (A : Type 0) → q ≡ root (joined top es) → q ≡ place_in top e.1 → A
no_root top es q e A own other = absurd (let paths : [] ≡ (place_in top e.1).path = sym (ap (λ (p : Place). p.path) own) ∙ ap (λ (p : Place). p.path) other in cc)

based : (top : Document) (e : ℕ × Document) (q : Place) (uri : List ℕ) → IsPut (put_in top e) → q ≡ place_in top e.1 → q.base ≡ Ok uri → uri ≡ base_uri e.1
based top e q uri put is base =
    let both : Ok uri ≡ Ok put.base = sym base ∙ ap (λ (p : Place). p.base) is ∙ put.has_base in
    let same_uri : uri ≡ put.base = cc in
    same_uri ∙ sym (base_is e.1 put.base put.same_base)

-- a place of the bundle that is found under its base, or is the root under the root's URI
abbrev pub IsAt : Document → List (ℕ × Document) → List ℕ → Place → Type 0
IsAt top es uri q = (q.base ≡ Ok uri) ⊎ ((q ≡ root (joined top es)) × (top.uri ≡ uri))

root_bears : (top : Document) (es : List (ℕ × Document)) (uri : List ℕ) (q : Place) → q ≡ root (joined top es) → IsAt top es uri q → Contains (uris_of top (root top)) uri
root_bears top es uri q now (inl base) = base_borne top uri (sym (same_base top es) ∙ sym (ap (λ (p : Place). p.base) now) ∙ base)
root_bears top es uri q now (inr own) = (0, omega arith, own.1)

under : (top : Document) (es : List (ℕ × Document)) (uri : List ℕ) (q p : Place) → AllPut top es → IsNow top es q p → IsAt top es uri q → IsNowUnder top es uri q p
under top es uri q p put (same v d b) found = same_under v d b
under top es uri q p put (bundle_root now before) found = root_under now before (root_bears top es uri q now found)
under top es uri q p put (embedded_root e there now before) (inl base) = embedded_under e there now before (based top e q uri (each_in (λ x. IsPut (put_in top x)) es e put there) now base)
under top es uri q p put (embedded_root e there now before) (inr own) = no_root top es q e _ own.0 now

found : (top : Document) (es : List (ℕ × Document)) (uri name : List ℕ) (kind : Kind) (q p : Place) → AllPut top es → IsNow top es q p → IsAt top es uri q → Contains (anchors q.draft q.value) (name, kind)
    → IsFoundNow top es uri name kind q p
found top es uri name kind q p put (same v d b) at anchored = found_same v d
found top es uri name kind q p put (bundle_root now before) at anchored = found_root now before (root_bears top es uri q now at)
found top es uri name kind q p put (embedded_root e there now before) (inl base) anchored =
    let one = each_in (λ x. IsPut (put_in top x)) es e put there in
    found_embedded e there now before (based top e q uri one now base)
    (subst (λ names. Contains names (name, kind)) (ap (λ (x : Place). anchors x.draft x.value) now ∙ one.same_anchors) anchored)
found top es uri name kind q p put (embedded_root e there now before) (inr own) anchored = no_root top es q e _ own.0 now

-- ---- entries of a document

own_base_by : (uri : List ℕ) (base : Result (List ℕ) Refusal) (id : Option (List ℕ)) → option_and_then (λ i. result_ok base) id ≡ Some uri → base ≡ Ok uri
own_base_by uri base None is = absurd (let e : None ≡ Some uri = is in cc)
own_base_by uri (Ok base) (Some id) is = ap (λ u. Ok u) (let e : Some base ≡ Some uri = is in cc)
own_base_by uri (Err refusal) (Some id) is = absurd (let e : None ≡ Some uri = is in cc)

pub own_base : (uri : List ℕ) (q : Place) → own_uri q ≡ Some uri → q.base ≡ Ok uri
own_base uri q is = own_base_by uri q.base (identifier_of q) is

resource_base : (q p : Place) (uri : List ℕ) (o : Option (List ℕ)) → own_uri p ≡ o → Contains {X = List ℕ × Place} (option_to_list (option_map (λ u. (u, p)) o)) (uri, q) → q.base ≡ Ok uri
resource_base q p uri None is there = absurd (omega (arith, there.1))
resource_base q p uri (Some u) is there =
    ⊎_elim
    (λ one. sym (ap (λ (e : List ℕ × Place). e.1.base) one) ∙ own_base u p is ∙ ap (λ (e : List ℕ × Place). Ok e.0) one)
    (λ later. absurd (omega (arith, later.1)))
    (first_or_later (u, p) [] (uri, q) there)

entry_base : (d : Document) (uri : List ℕ) (q : Place) → Contains (resources_in d) (uri, q) → (q.base ≡ Ok uri) ⊎ ((q ≡ root d) × (d.uri ≡ uri))
entry_base d uri q there =
    ⊎_elim
    (λ own. inr (sym (ap (λ (e : List ℕ × Place). e.1) own), ap (λ (e : List ℕ × Place). e.0) own))
    (λ later. let of_place = in_one_of resource_of (places d) (uri, q) later in inl (resource_base q of_place.0 uri (own_uri of_place.0) refl of_place.2))
    (first_or_later (d.uri, root d) (flat_map resource_of (places d)) (uri, q) there)

record IsNamedAt (d : Document) (m : Named) : Type 0 where
  base : (m.place.base ≡ Ok m.uri) ⊎ ((m.place ≡ root d) × (d.uri ≡ m.uri))
  anchored : Contains (anchors m.place.draft m.place.value) (m.name, m.kind)

named_by_anchor : (base : List ℕ) (p : Place) (m : Named) → Contains (named_under base p) m → (a : List ℕ × Kind) × Contains (anchors p.draft p.value) a × (record { uri = base; name = a.0; kind = a.1; place = p } ≡ m)
named_by_anchor base p m there = in_mapped (λ (a : List ℕ × Kind). record { uri = base; name = a.0; kind = a.1; place = p }) (anchors p.draft p.value) m there

named_anchored : (base : List ℕ) (p : Place) (m : Named) → Contains (named_under base p) m → Contains (anchors m.place.draft m.place.value) (m.name, m.kind)
named_anchored base p m there =
    let one = named_by_anchor base p m there in
    subst (λ (n : Named). Contains (anchors n.place.draft n.place.value) (n.name, n.kind)) one.2 one.1

named_at_base : (d : Document) (p : Place) (m : Named) (base : Result (List ℕ) Refusal) → p.base ≡ base → Contains (option_map_or (λ b. named_under b p) (result_ok base) []) m → IsNamedAt d m
named_at_base d p m (Ok base) is there =
    let one = named_by_anchor base p m there in
    record { base = inl (sym (ap (λ (n : Named). n.place.base) one.2) ∙ is ∙ ap (λ (n : Named). Ok n.uri) one.2); anchored = named_anchored base p m there }
named_at_base d p m (Err refusal) is there = absurd (omega (arith, there.1))

name_base : (d : Document) (m : Named) → Contains (names_in d) m → IsNamedAt d m
name_base d m there =
    ⊎_elim
    (λ own.
    let one = (named_by_anchor d.uri (root d) m own).2 in
    record { base = inr (sym (ap (λ (n : Named). n.place) one), ap (λ (n : Named). n.uri) one); anchored = named_anchored d.uri (root d) m own })
    (λ later. let of_place = in_one_of named_at (places d) m later in named_at_base d of_place.0 m of_place.0.base refl of_place.2)
    (Contains-append_cases (named_under d.uri (root d)) (flat_map named_at (places d)) m there)

-- ---- a URI that means, in the bundle, what it meant: also where it means a place of a parent

pub record IsSafe (layer : Layer) (fs : Further) (parents : World) (n : ℕ) (top : Document) (uri : List ℕ) : Type 0 where
  pub clear : IsClear layer n top (to_embed layer fs n) uri
  pub outside : (p : Place) (other : List ℕ) → last_under uri (resources layer) ≡ None → meant_place parents uri ≡ Some p → own_uri p ≡ Some other → last_under other (resources layer) ≡ None

pub none_bear : (layer : Layer) (uri : List ℕ) → last_under uri (resources layer) ≡ None → AllByRecursion (λ e. IsFree uri e.1) (counted_documents 0 layer)
none_bear layer uri none =
    let each = each_none (λ d. Under uri (resources_in d)) layer (sym (filter_flat (λ (e : List ℕ × Place). bytes_eq e.0 uri) resources_in layer) ∙ last_none (Under uri (resources layer)) none) in
    all_of (λ e. IsFree uri e.1) (counted_documents 0 layer) (λ e there. free uri e.1 (each_in (λ d. Under uri (resources_in d) ≡ []) layer e.1 each (in_layer 0 layer e there)))

pub last_is : {X : Type 0} (test : X → Bool) (xs : List X) (x : X) → last_or None (filter test xs) ≡ Some x → IsKeptThere test xs x
last_is test xs x is = ⊎_elim (λ none. absurd (let e : None ≡ Some x = none in cc)) (λ kept. kept) (last_kept test xs x None is)

pub no_second : {A B : Type 0} (R : A → B → Type 0) (a : Option A) (b : Option B) → BothAlike R a b → a ≡ None → b ≡ None
no_second R None None both is = refl
no_second R None (Some y) both is = absurd both
no_second R (Some x) b both is = absurd (let e : Some x ≡ None = is in cc)

pub no_first : {A B : Type 0} (R : A → B → Type 0) (a : Option A) (b : Option B) → BothAlike R a b → b ≡ None → a ≡ None
no_first R None b both is = refl
no_first R (Some x) None both is = absurd both
no_first R (Some x) (Some y) both is = absurd (let e : Some y ≡ None = is in cc)

-- ---- names

found_by : (top : Document) (es : List (ℕ × Document)) (uri name : List ℕ) (a b : Option Named) → AllPut top es → last_named uri name (names (joined top es ∷ [])) ≡ a → BothAlike (NameNow top es) a b → BothAlike (NameFound top es uri) a b
found_by top es uri name None None put is both = tt
found_by top es uri name None (Some n) put is both = absurd both
found_by top es uri name (Some m) None put is both = absurd both
found_by top es uri name (Some m) (Some n) put is both =
    let kept = last_is (λ (e : Named). bytes_eq e.uri uri && bytes_eq e.name name) (names (joined top es ∷ [])) m is in
    let passes = and_parts (bytes_eq m.uri uri) (bytes_eq m.name name) kept.passes in
    let own_uri_is : m.uri ≡ uri = (bytes_eq-Decides m.uri uri).0 passes.0 in
    let at = name_base (joined top es) m (subst (λ ns. Contains ns m) (append-nil (names_in (joined top es))) kept.there) in
    let base : IsAt top es uri m.place = subst (λ u. IsAt top es u m.place) own_uri_is at.base in
    record { name = both.name; kind = both.kind; place = found top es uri m.name m.kind m.place n.place put both.place base at.anchored }

found_itself : (top : Document) (es : List (ℕ × Document)) (uri : List ℕ) (o : Option Named) → BothAlike (NameFound top es uri) o o
found_itself top es uri None = tt
found_itself top es uri (Some m) = record { name = refl; kind = refl; place = found_same refl refl }

named_found_now : (layer : Layer) (fs : Further) (parents : World) (n : ℕ) (top : Document) (uri name : List ℕ) → IsMade layer fs n top → IsClear layer n top (to_embed layer fs n) uri
    → BothAlike (NameFound top (to_embed layer fs n) uri) (named_entry ((joined top (to_embed layer fs n) ∷ []) ∷ parents) uri name) (named_entry (layer ∷ parents) uri name)
named_found_now layer fs parents n top uri name is clear =
    let es = to_embed layer fs n in
    or_alike (NameFound top es uri) (last_named uri name (names (joined top es ∷ []))) (named_entry parents uri name) (last_named uri name (names layer)) (named_entry parents uri name)
    (found_by top es uri name (last_named uri name (names (joined top es ∷ []))) (last_named uri name (names layer)) (all_put layer fs n top is) refl
    (names_now layer n top es uri name (made_places layer fs n top is) (all_put layer fs n top is) clear))
    (found_itself top es uri (named_entry parents uri name))

-- ---- meanings

pub data Meaning (layer : Layer) (parents : World) (top : Document) (es : List (ℕ × Document)) (uri : List ℕ) (a b : Option Place) : Type 0 where
  nothing : a ≡ None → b ≡ None → Meaning layer parents top es uri a b
  of_own : (q p : Place) → a ≡ Some q → b ≡ Some p → IsNowUnder top es uri q p → IsAt top es uri q → Meaning layer parents top es uri a b
  of_parent : (p : Place) → a ≡ Some p → b ≡ Some p → last_under uri (resources layer) ≡ None → meant_place parents uri ≡ Some p → Meaning layer parents top es uri a b

meaning_by : (layer : Layer) (parents : World) (top : Document) (es : List (ℕ × Document)) (uri : List ℕ) (a b : Option (List ℕ × Place)) (rest : Option Place) → AllPut top es
    → last_under uri (resources (joined top es ∷ [])) ≡ a → last_under uri (resources layer) ≡ b → meant_place parents uri ≡ rest → BothAlike (EntryNow top es) a b
    → Meaning layer parents top es uri (option_map_or (λ e. Some e.1) a rest) (option_map_or (λ e. Some e.1) b rest)
meaning_by layer parents top es uri None None None put now before means_ both = nothing refl refl
meaning_by layer parents top es uri None None (Some p) put now before means_ both = of_parent p refl refl before means_
meaning_by layer parents top es uri None (Some f) rest put now before means_ both = absurd both
meaning_by layer parents top es uri (Some e) None rest put now before means_ both = absurd both
meaning_by layer parents top es uri (Some e) (Some f) rest put now before means_ both =
    let kept = last_is (λ (x : List ℕ × Place). bytes_eq x.0 uri) (resources (joined top es ∷ [])) e now in
    let own : e.0 ≡ uri = (bytes_eq-Decides e.0 uri).0 kept.passes in
    let base = entry_base (joined top es) e.0 e.1 (subst (λ rs. Contains rs e) (append-nil (resources_in (joined top es))) kept.there) in
    let here : IsAt top es uri e.1 = subst (λ u. IsAt top es u e.1) own base in
    of_own e.1 f.1 refl refl (under top es uri e.1 f.1 put both.1 here) here

pub meaning : (layer : Layer) (fs : Further) (parents : World) (n : ℕ) (top : Document) (uri : List ℕ) → IsMade layer fs n top → IsClear layer n top (to_embed layer fs n) uri
    → Meaning layer parents top (to_embed layer fs n) uri (meant_place ((joined top (to_embed layer fs n) ∷ []) ∷ parents) uri) (meant_place (layer ∷ parents) uri)
meaning layer fs parents n top uri is clear =
    let es = to_embed layer fs n in
    meaning_by layer parents top es uri (last_under uri (resources (joined top es ∷ []))) (last_under uri (resources layer)) (meant_place parents uri) (all_put layer fs n top is) refl refl refl
    (entries_now layer n top es uri (made_places layer fs n top is) (all_put layer fs n top is) clear)

-- ---- names by an identifier

-- a place that has the URI itself gives no other name
no_other_by : (world : World) (uri name : List ℕ) (base : Result (List ℕ) Refusal) (id : Option (List ℕ)) → base ≡ Ok uri → named_entry world uri name ≡ None → option_and_then (λ own. named_entry world own name) (option_and_then (λ i. result_ok base) id) ≡ None
no_other_by world uri name base None is none = refl
no_other_by world uri name base (Some id) is none = ap (λ b. option_and_then (λ own. named_entry world own name) (result_ok b)) is ∙ none

no_other : (world : World) (uri name : List ℕ) (q : Place) → q.base ≡ Ok uri → named_entry world uri name ≡ None → option_and_then (λ own. named_entry world own name) (own_uri q) ≡ None
no_other world uri name q is none = no_other_by world uri name q.base (identifier_of q) is none

base_before : (top : Document) (es : List (ℕ × Document)) (uri : List ℕ) (q p : Place) → AllPut top es → IsNowUnder top es uri q p → q.base ≡ Ok uri → p.base ≡ Ok uri
base_before top es uri q p put (same_under v d b) is = sym b ∙ is
base_before top es uri q p put (embedded_under e there now before own) is =
    let one = each_in (λ x. IsPut (put_in top x)) es e put there in
    ap (λ (x : Place). x.base) before ∙ one.same_base ∙ ap (λ u. Ok u) (sym (base_is e.1 one.base one.same_base) ∙ sym own)
base_before top es uri q p put (root_under now before bears) is = ap (λ (x : Place). x.base) before ∙ sym (same_base top es) ∙ sym (ap (λ (x : Place). x.base) now) ∙ is

own_uri_of : (q p : Place) → identifier_of q ≡ identifier_of p → q.base ≡ p.base → own_uri q ≡ own_uri p
own_uri_of q p ids bases = ap (λ id. option_and_then (λ i. result_ok q.base) id) ids ∙ ap (λ b. option_and_then (λ i. result_ok b) (identifier_of p)) bases

root_own_uri : (top : Document) (es : List (ℕ × Document)) (uri : List ℕ) (q p : Place) → IsNowUnder top es uri q p → q ≡ root (joined top es) → own_uri q ≡ own_uri p
root_own_uri top es uri q p (same_under v d b) own = own_uri_of q p (ap (λ x. identifier x q.value) d ∙ ap (identifier p.draft) v) b
root_own_uri top es uri q p (embedded_under e there now before at) own = no_root top es q e _ own now
root_own_uri top es uri q p (root_under now before bears) own =
    own_uri_of q p (ap identifier_of now ∙ identifier_top top es ∙ sym (ap identifier_of before)) (ap (λ (x : Place). x.base) now ∙ same_base top es ∙ sym (ap (λ (x : Place). x.base) before))

-- the root's base is none of an embedded document's
pub top_apart : (layer : Layer) (fs : Further) (n : ℕ) (top : Document) → IsMade layer fs n top → (e : ℕ × Document) → Contains (to_embed layer fs n) e → ¬ (base_uri e.1 ≡ base_uri top)
top_apart layer fs n top is e there =
    let own = root_counted layer n top is.at in
    let need = embedded_needed layer fs n e there in
    let at = needed_counted layer fs n e need.0 in
    let free_ = each_in (λ x. ¬ (x.0 ≡ n) → IsFree (base_uri top) x.1) (counted_documents 0 layer) e
    (others_free layer fs n top is (n, top) (root top) (base_uri top) (root_needed layer fs (n, top) own) (0, omega arith, refl) (base_borne top (base_uri top) (root_base layer (n, top) is.no_fault own))) at need.1 in
    other_base_of (base_uri top) (base_uri e.1) (root e.1).base (root_base layer e is.no_fault at) free_.bases.0

of_base : (layer : Layer) (fs : Further) (n : ℕ) (top : Document) → IsMade layer fs n top → (uri other : List ℕ) → Contains (uris_of top (root top)) uri → other ≡ base_uri top → (m k : Named) → NameFound top (to_embed layer fs n) other m k → NameFound top (to_embed layer fs n) uri m k
of_base layer fs n top is uri other bears own m k both = record { name = both.name; kind = both.kind; place = by_place both.place }
  where
    by_place : IsFoundNow top (to_embed layer fs n) other m.name m.kind m.place k.place → IsFoundNow top (to_embed layer fs n) uri m.name m.kind m.place k.place
    by_place (found_same v d) = found_same v d
    by_place (found_embedded e there now before at anchored) = absurd (top_apart layer fs n top is e there (sym at ∙ own))
    by_place (found_root now before others) = found_root now before bears

-- names under the root's base, by whichever URI of the root
by_root_base : (layer : Layer) (fs : Further) (parents : World) (n : ℕ) (top : Document) → IsMade layer fs n top → (uri name : List ℕ) → Contains (uris_of top (root top)) uri → (o : Option (List ℕ)) → own_uri (root top) ≡ o
    → BothAlike (NameFound top (to_embed layer fs n) uri) (option_and_then (λ own. named_entry ((joined top (to_embed layer fs n) ∷ []) ∷ parents) own name) o) (option_and_then (λ own. named_entry (layer ∷ parents) own name) o)
by_root_base layer fs parents n top is uri name bears None own = tt
by_root_base layer fs parents n top is uri name bears (Some other) own =
    let es = to_embed layer fs n in
    let root_there = root_counted layer n top is.at in
    let base : (root top).base ≡ Ok other = own_base other (root top) own in
    let same_uri : other ≡ base_uri top = sym (base_is top other base) in
    let clear = clear_borne layer fs n top is (n, top) (root top) other (root_needed layer fs (n, top) root_there) (0, omega arith, refl) (base_borne top other base) (λ apart_ own_. absurd (apart_ refl)) in
    weaker (NameFound top es other) (NameFound top es uri) (named_entry ((joined top es ∷ []) ∷ parents) other name) (named_entry (layer ∷ parents) other name)
    (of_base layer fs n top is uri other bears same_uri) (named_found_now layer fs parents n top other name is clear)

-- names under a URI that no own document has are those of the parents
parents_alone : (layer : Layer) (fs : Further) (parents : World) (n : ℕ) (top : Document) → IsMade layer fs n top → (uri other name : List ℕ) → last_under other (resources layer) ≡ None
    → BothAlike (NameFound top (to_embed layer fs n) uri) (named_entry ((joined top (to_embed layer fs n) ∷ []) ∷ parents) other name) (named_entry (layer ∷ parents) other name)
parents_alone layer fs parents n top is uri other name none =
    let es = to_embed layer fs n in
    let clear = clear_free layer fs n top is other (none_bear layer other none) in
    let was : last_named other name (names layer) ≡ None = no_names_were other name layer (none_bear layer other none) in
    let now : last_named other name (names (joined top es ∷ [])) ≡ None =
    no_first (NameNow top es) (last_named other name (names (joined top es ∷ []))) (last_named other name (names layer)) (names_now layer n top es other name (made_places layer fs n top is) (all_put layer fs n top is) clear) was in
    subst (λ o. BothAlike (NameFound top es uri) (option_or o (named_entry parents other name)) (named_entry (layer ∷ parents) other name)) (sym now)
    (subst (λ o. BothAlike (NameFound top es uri) (named_entry parents other name) (option_or o (named_entry parents other name))) (sym was) (found_itself top es uri (named_entry parents other name)))

by_parent : (layer : Layer) (fs : Further) (parents : World) (n : ℕ) (top : Document) → IsMade layer fs n top → (uri name : List ℕ) (p : Place) (o : Option (List ℕ)) → own_uri p ≡ o → ((other : List ℕ) → own_uri p ≡ Some other → last_under other (resources layer) ≡ None)
    → BothAlike (NameFound top (to_embed layer fs n) uri) (option_and_then (λ own. named_entry ((joined top (to_embed layer fs n) ∷ []) ∷ parents) own name) o) (option_and_then (λ own. named_entry (layer ∷ parents) own name) o)
by_parent layer fs parents n top is uri name p None own outside = tt
by_parent layer fs parents n top is uri name p (Some other) own outside = parents_alone layer fs parents n top is uri other name (outside other own)

both_none : {X Y : Type 0} (R : X → Y → Type 0) (o : Option X) (p : Option Y) → o ≡ None → p ≡ None → BothAlike R o p
both_none R o p first second = subst (λ x. BothAlike R x p) (sym first) (subst (λ y. BothAlike R None y) (sym second) tt)

-- what the identifier of the meant place gives, where nothing is named under the URI itself
identified_by : (layer : Layer) (fs : Further) (parents : World) (n : ℕ) (top : Document) → IsMade layer fs n top → (uri name : List ℕ) (a b : Option Place) → Meaning layer parents top (to_embed layer fs n) uri a b
    → ((p : Place) (other : List ℕ) → last_under uri (resources layer) ≡ None → meant_place parents uri ≡ Some p → own_uri p ≡ Some other → last_under other (resources layer) ≡ None)
    → named_entry ((joined top (to_embed layer fs n) ∷ []) ∷ parents) uri name ≡ None → named_entry (layer ∷ parents) uri name ≡ None
    → BothAlike (NameFound top (to_embed layer fs n) uri) (option_and_then (λ own. named_entry ((joined top (to_embed layer fs n) ∷ []) ∷ parents) own name) (option_and_then own_uri a)) (option_and_then (λ own. named_entry (layer ∷ parents) own name) (option_and_then own_uri b))
identified_by layer fs parents n top is uri name a b (nothing now before) outside first second =
    both_none (NameFound top (to_embed layer fs n) uri) _ _ (ap (λ x. option_and_then (λ own. named_entry ((joined top (to_embed layer fs n) ∷ []) ∷ parents) own name) (option_and_then own_uri x)) now) (ap (λ x. option_and_then (λ own. named_entry (layer ∷ parents) own name) (option_and_then own_uri x)) before)
identified_by layer fs parents n top is uri name a b (of_own q p now before place (inl base)) outside first second =
    let es = to_embed layer fs n in
    both_none (NameFound top es uri) _ _
    (ap (λ x. option_and_then (λ own. named_entry ((joined top es ∷ []) ∷ parents) own name) (option_and_then own_uri x)) now ∙ no_other ((joined top es ∷ []) ∷ parents) uri name q base first)
    (ap (λ x. option_and_then (λ own. named_entry (layer ∷ parents) own name) (option_and_then own_uri x)) before ∙ no_other (layer ∷ parents) uri name p (base_before top es uri q p (all_put layer fs n top is) place base) second)
identified_by layer fs parents n top is uri name a b (of_own q p now before place (inr own)) outside first second =
    let es = to_embed layer fs n in
    let bears : Contains (uris_of top (root top)) uri = (0, omega arith, own.1) in
    let same_own : own_uri q ≡ own_uri p = root_own_uri top es uri q p place own.0 in
    let of_root : own_uri q ≡ own_uri (root top) = ap own_uri own.0 ∙ root_own_uri top es uri (root (joined top es)) (root top) (root_under refl refl bears) refl in
    subst (λ x. BothAlike (NameFound top es uri) (option_and_then (λ o. named_entry ((joined top es ∷ []) ∷ parents) o name) (option_and_then own_uri x)) (option_and_then (λ o. named_entry (layer ∷ parents) o name) (option_and_then own_uri b))) (sym now)
    (subst (λ y. BothAlike (NameFound top es uri) (option_and_then (λ o. named_entry ((joined top es ∷ []) ∷ parents) o name) (own_uri q)) (option_and_then (λ o. named_entry (layer ∷ parents) o name) (option_and_then own_uri y))) (sym before)
    (subst (λ y. BothAlike (NameFound top es uri) (option_and_then (λ o. named_entry ((joined top es ∷ []) ∷ parents) o name) (own_uri q)) (option_and_then (λ o. named_entry (layer ∷ parents) o name) y)) same_own
    (subst (λ y. BothAlike (NameFound top es uri) (option_and_then (λ o. named_entry ((joined top es ∷ []) ∷ parents) o name) y) (option_and_then (λ o. named_entry (layer ∷ parents) o name) y)) (sym of_root)
    (by_root_base layer fs parents n top is uri name bears (own_uri (root top)) refl))))
identified_by layer fs parents n top is uri name a b (of_parent p now before none means_) outside first second =
    let es = to_embed layer fs n in
    subst (λ x. BothAlike (NameFound top es uri) (option_and_then (λ o. named_entry ((joined top es ∷ []) ∷ parents) o name) (option_and_then own_uri x)) (option_and_then (λ o. named_entry (layer ∷ parents) o name) (option_and_then own_uri b))) (sym now)
    (subst (λ y. BothAlike (NameFound top es uri) (option_and_then (λ o. named_entry ((joined top es ∷ []) ∷ parents) o name) (own_uri p)) (option_and_then (λ o. named_entry (layer ∷ parents) o name) (option_and_then own_uri y))) (sym before)
    (by_parent layer fs parents n top is uri name p (own_uri p) refl (λ other own. outside p other none means_ own)))

-- ---- the anchor

abbrev pub ResultAlike : {X Y E : Type 0} → (X → Y → Type 0) → Result X E → Result Y E → Type 0
ResultAlike R (Ok x) (Ok y) = R x y
ResultAlike R (Ok x) (Err e) = ⊥
ResultAlike R (Err e) (Ok y) = ⊥
ResultAlike R (Err e) (Err f) = e ≡ f

first_or_second : {X Y : Type 0} (R : X → Y → Type 0) (a : Option X) (b : Option Y) (c : Option X) (d : Option Y) → BothAlike R a b → (a ≡ None → b ≡ None → BothAlike R c d) → BothAlike R (option_or a c) (option_or b d)
first_or_second R None None c d both later = later refl refl
first_or_second R None (Some y) c d both later = absurd both
first_or_second R (Some x) None c d both later = absurd both
first_or_second R (Some x) (Some y) c d both later = both

or_fault : {X Y E : Type 0} (R : X → Y → Type 0) (a : Option X) (b : Option Y) (fault : E) → BothAlike R a b → ResultAlike R (ok_or a fault) (ok_or b fault)
or_fault R None None fault both = refl
or_fault R None (Some y) fault both = absurd both
or_fault R (Some x) None fault both = absurd both
or_fault R (Some x) (Some y) fault both = both

-- what a name means under a safe URI
pub anchor_now : (layer : Layer) (fs : Further) (parents : World) (n : ℕ) (top : Document) → IsMade layer fs n top → (uri name : List ℕ) → IsSafe layer fs parents n top uri
    → ResultAlike (NameFound top (to_embed layer fs n) uri) (anchor ((joined top (to_embed layer fs n) ∷ []) ∷ parents) uri name) (anchor (layer ∷ parents) uri name)
unfolding anchor
anchor_now layer fs parents n top is uri name safe =
    let es = to_embed layer fs n in
    let now = (joined top es ∷ []) ∷ parents in
    let before = layer ∷ parents in
    or_fault (NameFound top es uri) (option_or (named_entry now uri name) (named_by_identifier now uri name)) (option_or (named_entry before uri name) (named_by_identifier before uri name)) (not_named name)
    (first_or_second (NameFound top es uri) (named_entry now uri name) (named_entry before uri name) (named_by_identifier now uri name) (named_by_identifier before uri name)
    (named_found_now layer fs parents n top uri name is safe.clear)
    (λ first second. identified_by layer fs parents n top is uri name (meant_place now uri) (meant_place before uri) (meaning layer fs parents n top uri is safe.clear) safe.outside first second))
