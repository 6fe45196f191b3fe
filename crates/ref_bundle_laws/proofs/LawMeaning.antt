-- What URIs and names mean in the world of a bundle, and what they meant. In this order:
-- 1. Each place of the bundle was a place of one of the documents.
-- 2. A URI is clear where one document alone has it: the root, or one that is embedded.
-- 3. The entries and names of the layer that was, and of the layer that is, come from the bundle's parts one by one.
-- 4. So those of a clear URI are the same, and it means the same place, as does each name under it.
use Rattle.std.proofs.Common.{◌≡◌, ℕ, suc, cond, ◌&&◌, List, [], ◌∷◌, ◌++◌, flat_map, map, Option, Some, None, option_map, option_and_then, Result, Ok, Err, inl, inr, refl, sym, ap, subst, ◌∙◌, append-nil, bytes_eq}
use Rattle.std.specs.List.{AllByRecursion, Contains, last_or}
use Rattle.std.specs.Option.{option_map_or, option_to_list}
use Rattle.std.specs.Result.{result_ok}
use Rattle.std.proofs.lemmas.List.{map-append}
use Rattle.ref_draft.specs.Anchors.{Kind, anchors}
use Rattle.ref_uri.specs.Targets.{Refusal}
use Rattle.ref_definitions.specs.World.{Document, Layer, World}
use Rattle.ref_definitions.specs.Places.{Place, root, identifier_of, places}
use Rattle.ref_definitions.specs.Resources.{resources_in, resources, last_under, meant_place}
use Rattle.ref_definitions.specs.Anchors.{Named, named_under, names_in, names, last_named, named_entry}
use Rattle.ref_bundle_laws.specs.Merges.{IsMergeOf}
use Rattle.ref_bundle.specs.Needed.{counted_documents}
use Rattle.ref_bundle.specs.Bundle.{bundle_of}
use Rattle.ref_bundle_laws.specs.Kept.{place_in, places_of_embedded, places_of_root}
use Rattle.ref_bundle_laws.proofs.LawAlike.{AreAlike, BothAlike, alike_append, last_alike, or_alike, map_alike, filter_alike}
use Rattle.ref_bundle_laws.proofs.LawEntries.{Under, NamedAs, borne_by, named_by, IsOther, AllOther, none_under, none_at, none_of, IsFree}
use Rattle.ref_bundle_laws.proofs.LawBorne.{below_root, IsPut, Became, EntryAlike, NameAlike, one_kept, bears_none, part_other}
use Rattle.ref_bundle_laws.proofs.LawMeans.{no_entries_of, no_names_of, pick, first_entry, entries_in_pieces, names_in_pieces, entries_of_one, names_of_one, IsNoAlias, part_entries, part_names}
use Rattle.ref_bundle_laws.proofs.LawTop.{identifier_top, anchors_top}
use Rattle.ref_bundle_laws.proofs.LawPlaces.{put_in, AllPut, joined, same_base}
use Rattle.ref_bundle_laws.proofs.LawNeeded.{IsAlone}
use Rattle.ref_definitions.proofs.Lists.{each_in, all_left, all_right}

-- ---- a place of the bundle, and what it was

pub data IsNow (top : Document) (es : List (ℕ × Document)) (q p : Place) : Type 0 where
  same : q.value ≡ p.value → q.draft ≡ p.draft → q.base ≡ p.base → IsNow top es q p
  embedded_root : (e : ℕ × Document) → Contains es e → q ≡ place_in top e.1 → p ≡ root e.1 → IsNow top es q p
  bundle_root : q ≡ root (joined top es) → p ≡ root top → IsNow top es q p

abbrev pub EntryNow : Document → List (ℕ × Document) → List ℕ × Place → List ℕ × Place → Type 0
EntryNow top es e f = (e.0 ≡ f.0) × IsNow top es e.1 f.1

pub record NameNow (top : Document) (es : List (ℕ × Document)) (m n : Named) : Type 0 where
  pub uri : m.uri ≡ n.uri
  pub name : m.name ≡ n.name
  pub kind : m.kind ≡ n.kind
  pub place : IsNow top es m.place n.place

pub now_itself : (top : Document) (es : List (ℕ × Document)) (p : Place) → IsNow top es p p
now_itself top es p = same refl refl refl

became_now : (top : Document) (es : List (ℕ × Document)) (x : ℕ × Document) → Contains es x → (q p : Place) → Became (put_in top x) q p → IsNow top es q p
became_now top es x there q p (inl moved) = same (ap (λ (r : Place). r.value) moved) (ap (λ (r : Place). r.draft) moved) (ap (λ (r : Place). r.base) moved)
became_now top es x there q p (inr both) = embedded_root x there both.0 both.1

-- ---- what is known of a URI

-- no document of the layer has it; or the root alone does; or an embedded document alone does, and its identifier doesn't replace it
pub data IsClear (layer : Layer) (number : ℕ) (top : Document) (es : List (ℕ × Document)) (uri : List ℕ) : Type 0 where
  borne_by_none : AllByRecursion (λ e. IsFree uri e.1) (counted_documents 0 layer) → AllByRecursion (λ e. IsFree uri e.1) es → IsFree uri top → IsClear layer number top es uri
  borne_by_root : IsAlone uri (counted_documents 0 layer) (number, top) → AllByRecursion (λ e. IsFree uri e.1) es → IsClear layer number top es uri
  borne_by_embedded : (x : ℕ × Document) → Contains es x → IsAlone uri (counted_documents 0 layer) x → IsAlone uri es x → IsFree uri top → IsNoAlias uri (put_in top x) → IsClear layer number top es uri

-- ---- the layer that it was

documents_of : (k : ℕ) (ds : Layer) → map (λ (e : ℕ × Document). e.1) (counted_documents k ds) ≡ ds
documents_of k [] = refl
documents_of k (d ∷ ds) = ap (λ rest. d ∷ rest) (documents_of (suc k) ds)

free_of : (uri : List ℕ) (es : List (ℕ × Document)) → AllByRecursion (λ e. IsFree uri e.1) es → AllByRecursion (IsFree uri) (map (λ (e : ℕ × Document). e.1) es)
free_of uri [] each = tt
free_of uri (e ∷ es) each = (each.0, free_of uri es each.1)

layer_split : (uri : List ℕ) (layer : Layer) (x : ℕ × Document) → (one : IsAlone uri (counted_documents 0 layer) x)
    → layer ≡ map (λ (e : ℕ × Document). e.1) one.before ++ x.1 ∷ map (λ (e : ℕ × Document). e.1) one.after
layer_split uri layer x one =
    sym (documents_of 0 layer) ∙ ap (map (λ (e : ℕ × Document). e.1)) one.are ∙ map-append (λ (e : ℕ × Document). e.1) one.before (x ∷ one.after)

entries_were : (uri : List ℕ) (layer : Layer) (x : ℕ × Document) → IsAlone uri (counted_documents 0 layer) x → last_under uri (resources layer) ≡ last_under uri (resources_in x.1)
entries_were uri layer x one =
    ap (λ l. last_under uri (resources l)) (layer_split uri layer x one)
    ∙ ap (last_or None) (entries_of_one uri (map (λ (e : ℕ × Document). e.1) one.before) x.1 (map (λ (e : ℕ × Document). e.1) one.after) (free_of uri one.before one.front) (free_of uri one.after one.back))

names_were : (uri name : List ℕ) (layer : Layer) (x : ℕ × Document) → IsAlone uri (counted_documents 0 layer) x → last_named uri name (names layer) ≡ last_named uri name (names_in x.1)
names_were uri name layer x one =
    ap (λ l. last_named uri name (names l)) (layer_split uri layer x one)
    ∙ ap (last_or None) (names_of_one uri name (map (λ (e : ℕ × Document). e.1) one.before) x.1 (map (λ (e : ℕ × Document). e.1) one.after) (free_of uri one.before one.front) (free_of uri one.after one.back))

pub no_entries_were : (uri : List ℕ) (layer : Layer) → AllByRecursion (λ e. IsFree uri e.1) (counted_documents 0 layer) → last_under uri (resources layer) ≡ None
no_entries_were uri layer free_ =
    ap (λ l. last_under uri (resources l)) (sym (documents_of 0 layer))
    ∙ ap (last_or None) (no_entries_of uri (map (λ (e : ℕ × Document). e.1) (counted_documents 0 layer)) (free_of uri (counted_documents 0 layer) free_))

pub no_names_were : (uri name : List ℕ) (layer : Layer) → AllByRecursion (λ e. IsFree uri e.1) (counted_documents 0 layer) → last_named uri name (names layer) ≡ None
no_names_were uri name layer free_ =
    ap (λ l. last_named uri name (names l)) (sym (documents_of 0 layer))
    ∙ ap (last_or None) (no_names_of uri name (map (λ (e : ℕ × Document). e.1) (counted_documents 0 layer)) (free_of uri (counted_documents 0 layer) free_))

-- ---- the parts of the bundle

abbrev IsWhole : Document → List (ℕ × Document) → Type 0
IsWhole top es = IsMergeOf Place (places (joined top es)) (places_of_root top (bundle_of top es) ∷ map (places_of_embedded top) es)

root_other : (uri : List ℕ) (top : Document) (es : List (ℕ × Document)) → IsFree uri top → AllOther uri (places_of_root top (bundle_of top es))
root_other uri top es free_ = (subst (IsOther uri) (sym (same_base top es)) free_.bases.0, free_.bases.1)

others_other : (uri : List ℕ) (top : Document) (es : List (ℕ × Document)) → AllPut top es → AllByRecursion (λ e. IsFree uri e.1) es → AllByRecursion (AllOther uri) (map (places_of_embedded top) es)
others_other uri top [] put free_ = tt
others_other uri top (e ∷ es) put free_ = (part_other uri (put_in top e) put.0 free_.0.bases, others_other uri top es put.1 free_.1)

quiet_parts : {A : Type 0} (f : Place → List A) (uri : List ℕ) (parts : List (List Place)) → ((ps : List Place) → AllOther uri ps → AllByRecursion (λ p. f p ≡ []) ps) → AllByRecursion (AllOther uri) parts → AllByRecursion (λ part. AllByRecursion (λ p. f p ≡ []) part) parts
quiet_parts f uri [] quiet each = tt
quiet_parts f uri (part ∷ parts) quiet each = (quiet part each.0, quiet_parts f uri parts quiet each.1)

-- what comes of the places of the bundle comes of one part, where the others have other bases
of_root : {A : Type 0} (f : Place → List A) (uri : List ℕ) (top : Document) (es : List (ℕ × Document)) → IsWhole top es → AllPut top es → ((ps : List Place) → AllOther uri ps → AllByRecursion (λ p. f p ≡ []) ps)
    → AllByRecursion (λ e. IsFree uri e.1) es → flat_map f (places (joined top es)) ≡ flat_map f (places_of_root top (bundle_of top es))
of_root f uri top es whole put quiet free_ =
    pick f (places (joined top es)) [] (places_of_root top (bundle_of top es)) (map (places_of_embedded top) es) whole tt (quiet_parts f uri (map (places_of_embedded top) es) quiet (others_other uri top es put free_))

of_embedded : {A : Type 0} (f : Place → List A) (uri : List ℕ) (top : Document) (es : List (ℕ × Document)) (x : ℕ × Document) → IsWhole top es → AllPut top es → ((ps : List Place) → AllOther uri ps → AllByRecursion (λ p. f p ≡ []) ps)
    → (one : IsAlone uri es x) → IsFree uri top → flat_map f (places (joined top es)) ≡ flat_map f (places_of_embedded top x)
of_embedded f uri top es x whole put quiet one free_ =
    let parts : map (places_of_embedded top) es ≡ map (places_of_embedded top) one.before ++ places_of_embedded top x ∷ map (places_of_embedded top) one.after =
    ap (map (places_of_embedded top)) one.are ∙ map-append (places_of_embedded top) one.before (x ∷ one.after) in
    let all_put : AllPut top (one.before ++ x ∷ one.after) = subst (AllPut top) one.are put in
    let before_put = all_left (λ e. IsPut (put_in top e)) one.before (x ∷ one.after) all_put in
    let after_put = (all_right (λ e. IsPut (put_in top e)) one.before (x ∷ one.after) all_put).1 in
    pick f (places (joined top es)) (places_of_root top (bundle_of top es) ∷ map (places_of_embedded top) one.before) (places_of_embedded top x) (map (places_of_embedded top) one.after)
    (subst (λ ps. IsMergeOf Place (places (joined top es)) (places_of_root top (bundle_of top es) ∷ ps)) parts whole) (
      quiet (places_of_root top (bundle_of top es)) (root_other uri top es free_),
      quiet_parts f uri (map (places_of_embedded top) one.before) quiet (others_other uri top one.before before_put one.front),
    )
    (quiet_parts f uri (map (places_of_embedded top) one.after) quiet (others_other uri top one.after after_put one.back))

of_none : {A : Type 0} (f : Place → List A) (uri : List ℕ) (top : Document) (es : List (ℕ × Document)) → IsWhole top es → AllPut top es → ((ps : List Place) → AllOther uri ps → AllByRecursion (λ p. f p ≡ []) ps)
    → AllByRecursion (λ e. IsFree uri e.1) es → IsFree uri top → flat_map f (places (joined top es)) ≡ []
of_none f uri top es whole put quiet free_ also =
    of_root f uri top es whole put quiet free_ ∙ none_of f (places_of_root top (bundle_of top es)) (quiet (places_of_root top (bundle_of top es)) (root_other uri top es also))

-- ---- the layer that it is

entries_are : (uri : List ℕ) (top : Document) (es : List (ℕ × Document)) → last_under uri (resources (joined top es ∷ [])) ≡ last_or None (first_entry uri (joined top es) ++ flat_map (borne_by uri) (places (joined top es)))
entries_are uri top es = ap (last_under uri) (append-nil (resources_in (joined top es))) ∙ ap (last_or None) (entries_in_pieces uri (joined top es))

names_are : (uri name : List ℕ) (top : Document) (es : List (ℕ × Document)) → last_named uri name (names (joined top es ∷ [])) ≡ last_or None (NamedAs uri name (named_under top.uri (root (joined top es))) ++ flat_map (named_by uri name) (places (joined top es)))
names_are uri name top es = ap (last_named uri name) (append-nil (names_in (joined top es))) ∙ ap (last_or None) (names_in_pieces uri name (joined top es))

pub weaker : {X Y : Type 0} (R S : X → Y → Type 0) (o : Option X) (p : Option Y) → ((x : X) (y : Y) → R x y → S x y) → BothAlike R o p → BothAlike S o p
weaker R S None None each both = tt
weaker R S None (Some y) each both = absurd both
weaker R S (Some x) None each both = absurd both
weaker R S (Some x) (Some y) each both = each x y both

-- entries of the root
alike_itself : {X : Type 0} (R : X → X → Type 0) (xs : List X) → ((x : X) → R x x) → AreAlike R xs xs
alike_itself R [] each = tt
alike_itself R (x ∷ xs) each = (each x, alike_itself R xs each)

root_entry : (top : Document) (es : List (ℕ × Document)) (uri : List ℕ) (q p : Place) (id : Option (List ℕ)) (base : Result (List ℕ) Refusal) → IsNow top es q p
    → AreAlike (EntryNow top es) (Under uri (option_to_list (option_map (λ u. (u, q)) (option_and_then (λ i. result_ok base) id)))) (Under uri (option_to_list (option_map (λ u. (u, p)) (option_and_then (λ i. result_ok base) id))))
root_entry top es uri q p None base now = tt
root_entry top es uri q p (Some id) (Ok base) now = one_kept (EntryNow top es) (bytes_eq base uri) (base, q) (base, p) (refl, now)
root_entry top es uri q p (Some id) (Err refusal) now = tt

root_borne : (top : Document) (es : List (ℕ × Document)) (uri : List ℕ) → AreAlike (EntryNow top es) (borne_by uri (root (joined top es))) (borne_by uri (root top))
root_borne top es uri =
    let q = root (joined top es) in
    subst (λ id. AreAlike (EntryNow top es) (Under uri (option_to_list (option_map (λ u. (u, q)) (option_and_then (λ i. result_ok q.base) id)))) (borne_by uri (root top))) (sym (identifier_top top es))
    (subst (λ b. AreAlike (EntryNow top es) (Under uri (option_to_list (option_map (λ u. (u, q)) (option_and_then (λ i. result_ok b) (identifier_of (root top)))))) (borne_by uri (root top))) (sym (same_base top es))
    (root_entry top es uri q (root top) (identifier_of (root top)) (root top).base (bundle_root refl refl)))

root_entries_now : (top : Document) (es : List (ℕ × Document)) (uri : List ℕ)
    → BothAlike (EntryNow top es) (last_or None (first_entry uri (joined top es) ++ flat_map (borne_by uri) (places_of_root top (bundle_of top es)))) (last_or None (first_entry uri top ++ flat_map (borne_by uri) (places top)))
root_entries_now top es uri =
    let rest = flat_map (borne_by uri) (below_root top) in
    last_alike (EntryNow top es) (first_entry uri (joined top es) ++ (borne_by uri (root (joined top es)) ++ rest)) (first_entry uri top ++ (borne_by uri (root top) ++ rest))
    (alike_append (EntryNow top es) (first_entry uri (joined top es)) (borne_by uri (root (joined top es)) ++ rest) (first_entry uri top) (borne_by uri (root top) ++ rest)
    (one_kept (EntryNow top es) (bytes_eq top.uri uri) (top.uri, root (joined top es)) (top.uri, root top) (refl, bundle_root refl refl))
    (alike_append (EntryNow top es) (borne_by uri (root (joined top es))) rest (borne_by uri (root top)) rest (root_borne top es uri)
    (alike_itself (EntryNow top es) rest (λ e. (refl, now_itself top es e.1)))))

-- names of the root
named_now_under : (top : Document) (es : List (ℕ × Document)) (uri name base : List ℕ) (q p : Place) (cs : List (List ℕ × Kind)) → IsNow top es q p
    → AreAlike (NameNow top es) (NamedAs uri name (map (λ a. record { uri = base; name = a.0; kind = a.1; place = q }) cs)) (NamedAs uri name (map (λ a. record { uri = base; name = a.0; kind = a.1; place = p }) cs))
named_now_under top es uri name base q p cs now =
    filter_alike (NameNow top es) (λ (e : Named). bytes_eq e.uri uri && bytes_eq e.name name) (λ (e : Named). bytes_eq e.uri uri && bytes_eq e.name name)
    (map (λ a. record { uri = base; name = a.0; kind = a.1; place = q }) cs) (map (λ a. record { uri = base; name = a.0; kind = a.1; place = p }) cs)
    (λ m n alike. ap (λ u. bytes_eq u uri && bytes_eq m.name name) alike.uri ∙ ap (λ t. bytes_eq n.uri uri && bytes_eq t name) alike.name)
    (map_alike (NameNow top es) (λ a. record { uri = base; name = a.0; kind = a.1; place = q }) (λ a. record { uri = base; name = a.0; kind = a.1; place = p }) cs
    (λ a. record { uri = refl; name = refl; kind = refl; place = now }))

root_named_under : (top : Document) (es : List (ℕ × Document)) (uri name base : List ℕ) → AreAlike (NameNow top es) (NamedAs uri name (named_under base (root (joined top es)))) (NamedAs uri name (named_under base (root top)))
root_named_under top es uri name base =
    subst (λ cs. AreAlike (NameNow top es) (NamedAs uri name (map (λ (a : List ℕ × Kind). record { uri = base; name = a.0; kind = a.1; place = root (joined top es) }) cs)) (NamedAs uri name (named_under base (root top)))) (sym (anchors_top top es))
    (named_now_under top es uri name base (root (joined top es)) (root top) (anchors top.draft top.tree) (bundle_root refl refl))

root_named_with : (top : Document) (es : List (ℕ × Document)) (uri name : List ℕ) (base : Result (List ℕ) Refusal)
    → AreAlike (NameNow top es) (NamedAs uri name (option_map_or (λ b. named_under b (root (joined top es))) (result_ok base) [])) (NamedAs uri name (option_map_or (λ b. named_under b (root top)) (result_ok base) []))
root_named_with top es uri name (Ok base) = root_named_under top es uri name base
root_named_with top es uri name (Err refusal) = tt

root_named : (top : Document) (es : List (ℕ × Document)) (uri name : List ℕ) → AreAlike (NameNow top es) (named_by uri name (root (joined top es))) (named_by uri name (root top))
root_named top es uri name =
    subst (λ b. AreAlike (NameNow top es) (NamedAs uri name (option_map_or (λ u. named_under u (root (joined top es))) (result_ok b) [])) (named_by uri name (root top))) (sym (same_base top es))
    (root_named_with top es uri name (root top).base)

root_names_now : (top : Document) (es : List (ℕ × Document)) (uri name : List ℕ)
    → BothAlike (NameNow top es) (last_or None (NamedAs uri name (named_under top.uri (root (joined top es))) ++ flat_map (named_by uri name) (places_of_root top (bundle_of top es))))
    (last_or None (NamedAs uri name (named_under top.uri (root top)) ++ flat_map (named_by uri name) (places top)))
root_names_now top es uri name =
    let rest = flat_map (named_by uri name) (below_root top) in
    let first = NamedAs uri name (named_under top.uri (root (joined top es))) in
    let own = NamedAs uri name (named_under top.uri (root top)) in
    last_alike (NameNow top es) (first ++ (named_by uri name (root (joined top es)) ++ rest)) (own ++ (named_by uri name (root top) ++ rest))
    (alike_append (NameNow top es) first (named_by uri name (root (joined top es)) ++ rest) own (named_by uri name (root top) ++ rest) (root_named_under top es uri name top.uri)
    (alike_append (NameNow top es) (named_by uri name (root (joined top es))) rest (named_by uri name (root top)) rest (root_named top es uri name)
    (alike_itself (NameNow top es) rest (λ e. record { uri = refl; name = refl; kind = refl; place = now_itself top es e.place }))))

-- ---- entries and names of a clear URI

no_first_entry : (uri : List ℕ) (top : Document) (es : List (ℕ × Document)) → IsFree uri top → first_entry uri (joined top es) ≡ []
no_first_entry uri top es free_ = ap (λ b. cond b ((top.uri, root (joined top es)) ∷ []) []) free_.entry

pub entries_now : (layer : Layer) (n : ℕ) (top : Document) (es : List (ℕ × Document)) (uri : List ℕ) → IsWhole top es → AllPut top es → IsClear layer n top es uri
    → BothAlike (EntryNow top es) (last_under uri (resources (joined top es ∷ []))) (last_under uri (resources layer))
entries_now layer n top es uri whole put (borne_by_none in_layer in_es in_top) =
    let nothing : last_under uri (resources (joined top es ∷ [])) ≡ None =
    entries_are uri top es ∙ ap (λ front. last_or None (front ++ flat_map (borne_by uri) (places (joined top es)))) (no_first_entry uri top es in_top)
    ∙ ap (last_or None) (of_none (borne_by uri) uri top es whole put (bears_none uri) in_es in_top) in
    subst (λ o. BothAlike (EntryNow top es) o (last_under uri (resources layer))) (sym nothing)
    (subst (λ o. BothAlike (EntryNow top es) None o) (sym (no_entries_were uri layer in_layer)) tt)
entries_now layer n top es uri whole put (borne_by_root one in_es) =
    let here : last_under uri (resources (joined top es ∷ [])) ≡ last_or None (first_entry uri (joined top es) ++ flat_map (borne_by uri) (places_of_root top (bundle_of top es))) =
    entries_are uri top es ∙ ap (λ rest. last_or None (first_entry uri (joined top es) ++ rest)) (of_root (borne_by uri) uri top es whole put (bears_none uri) in_es) in
    let there : last_under uri (resources layer) ≡ last_or None (first_entry uri top ++ flat_map (borne_by uri) (places top)) =
    entries_were uri layer (n, top) one ∙ ap (last_or None) (entries_in_pieces uri top) in
    subst (λ o. BothAlike (EntryNow top es) o (last_under uri (resources layer))) (sym here)
    (subst (λ o. BothAlike (EntryNow top es) (last_or None (first_entry uri (joined top es) ++ flat_map (borne_by uri) (places_of_root top (bundle_of top es)))) o) (sym there)
    (root_entries_now top es uri))
entries_now layer n top es uri whole put (borne_by_embedded x own one alone in_top no_alias) =
    let here : last_under uri (resources (joined top es ∷ [])) ≡ last_or None (flat_map (borne_by uri) (places_of_embedded top x)) =
    entries_are uri top es ∙ ap (λ front. last_or None (front ++ flat_map (borne_by uri) (places (joined top es)))) (no_first_entry uri top es in_top)
    ∙ ap (last_or None) (of_embedded (borne_by uri) uri top es x whole put (bears_none uri) alone in_top) in
    subst (λ o. BothAlike (EntryNow top es) o (last_under uri (resources layer))) (sym here)
    (subst (λ o. BothAlike (EntryNow top es) (last_or None (flat_map (borne_by uri) (places_of_embedded top x))) o) (sym (entries_were uri layer x one))
    (weaker (EntryAlike (put_in top x)) (EntryNow top es) (last_or None (flat_map (borne_by uri) (places_of_embedded top x))) (last_under uri (resources_in x.1))
    (λ e f both. (both.0, became_now top es x own e.1 f.1 both.1)) (part_entries (put_in top x) uri (each_in (λ e. IsPut (put_in top e)) es x put own) no_alias)))

pub names_now : (layer : Layer) (n : ℕ) (top : Document) (es : List (ℕ × Document)) (uri name : List ℕ) → IsWhole top es → AllPut top es → IsClear layer n top es uri
    → BothAlike (NameNow top es) (last_named uri name (names (joined top es ∷ []))) (last_named uri name (names layer))
names_now layer n top es uri name whole put (borne_by_none in_layer in_es in_top) =
    let nothing : last_named uri name (names (joined top es ∷ [])) ≡ None =
    names_are uri name top es ∙ ap (λ front. last_or None (front ++ flat_map (named_by uri name) (places (joined top es)))) (none_under uri name top.uri (root (joined top es)) in_top.entry)
    ∙ ap (last_or None) (of_none (named_by uri name) uri top es whole put (none_at uri name) in_es in_top) in
    subst (λ o. BothAlike (NameNow top es) o (last_named uri name (names layer))) (sym nothing)
    (subst (λ o. BothAlike (NameNow top es) None o) (sym (no_names_were uri name layer in_layer)) tt)
names_now layer n top es uri name whole put (borne_by_root one in_es) =
    let here : last_named uri name (names (joined top es ∷ [])) ≡ last_or None (NamedAs uri name (named_under top.uri (root (joined top es))) ++ flat_map (named_by uri name) (places_of_root top (bundle_of top es))) =
    names_are uri name top es ∙ ap (λ rest. last_or None (NamedAs uri name (named_under top.uri (root (joined top es))) ++ rest)) (of_root (named_by uri name) uri top es whole put (none_at uri name) in_es) in
    let there : last_named uri name (names layer) ≡ last_or None (NamedAs uri name (named_under top.uri (root top)) ++ flat_map (named_by uri name) (places top)) =
    names_were uri name layer (n, top) one ∙ ap (last_or None) (names_in_pieces uri name top) in
    subst (λ o. BothAlike (NameNow top es) o (last_named uri name (names layer))) (sym here)
    (subst (λ o. BothAlike (NameNow top es) (last_or None (NamedAs uri name (named_under top.uri (root (joined top es))) ++ flat_map (named_by uri name) (places_of_root top (bundle_of top es)))) o) (sym there)
    (root_names_now top es uri name))
names_now layer n top es uri name whole put (borne_by_embedded x own one alone in_top no_alias) =
    let here : last_named uri name (names (joined top es ∷ [])) ≡ last_or None (flat_map (named_by uri name) (places_of_embedded top x)) =
    names_are uri name top es ∙ ap (λ front. last_or None (front ++ flat_map (named_by uri name) (places (joined top es)))) (none_under uri name top.uri (root (joined top es)) in_top.entry)
    ∙ ap (last_or None) (of_embedded (named_by uri name) uri top es x whole put (none_at uri name) alone in_top) in
    subst (λ o. BothAlike (NameNow top es) o (last_named uri name (names layer))) (sym here)
    (subst (λ o. BothAlike (NameNow top es) (last_or None (flat_map (named_by uri name) (places_of_embedded top x))) o) (sym (names_were uri name layer x one))
    (weaker (NameAlike (put_in top x)) (NameNow top es) (last_or None (flat_map (named_by uri name) (places_of_embedded top x))) (last_named uri name (names_in x.1))
    (λ m k both. record { uri = both.uri; name = both.name; kind = both.kind; place = became_now top es x own m.place k.place both.place }) (part_names (put_in top x) uri name (each_in (λ e. IsPut (put_in top e)) es x put own) no_alias)))

-- ---- what they mean

place_now : (top : Document) (es : List (ℕ × Document)) (a b : Option (List ℕ × Place)) (rest : Option Place) → BothAlike (EntryNow top es) a b → BothAlike (IsNow top es) (option_map_or (λ e. Some e.1) a rest) (option_map_or (λ e. Some e.1) b rest)
place_now top es None None None both = tt
place_now top es None None (Some p) both = now_itself top es p
place_now top es None (Some e) rest both = absurd both
place_now top es (Some e) None rest both = absurd both
place_now top es (Some e) (Some f) rest both = both.1

name_itself : (top : Document) (es : List (ℕ × Document)) (o : Option Named) → BothAlike (NameNow top es) o o
name_itself top es None = tt
name_itself top es (Some m) = record { uri = refl; name = refl; kind = refl; place = now_itself top es m.place }

-- what a clear URI means
pub means_now : (layer : Layer) (parents : World) (n : ℕ) (top : Document) (es : List (ℕ × Document)) (uri : List ℕ) → IsWhole top es → AllPut top es → IsClear layer n top es uri
    → BothAlike (IsNow top es) (meant_place ((joined top es ∷ []) ∷ parents) uri) (meant_place (layer ∷ parents) uri)
means_now layer parents n top es uri whole put clear =
    place_now top es (last_under uri (resources (joined top es ∷ []))) (last_under uri (resources layer)) (meant_place parents uri) (entries_now layer n top es uri whole put clear)

-- and what a name under it does
pub named_now : (layer : Layer) (parents : World) (n : ℕ) (top : Document) (es : List (ℕ × Document)) (uri name : List ℕ) → IsWhole top es → AllPut top es → IsClear layer n top es uri
    → BothAlike (NameNow top es) (named_entry ((joined top es ∷ []) ∷ parents) uri name) (named_entry (layer ∷ parents) uri name)
named_now layer parents n top es uri name whole put clear =
    or_alike (NameNow top es) (last_named uri name (names (joined top es ∷ []))) (named_entry parents uri name) (last_named uri name (names layer)) (named_entry parents uri name)
    (names_now layer n top es uri name whole put clear) (name_itself top es (named_entry parents uri name))
