-- What a URI and a name mean in a bundle: what they mean among its documents.
use Rattle.std.proofs.Common.{◌≡◌, ℕ, Bool, true, false, cond, ◌&&◌, List, [], ◌∷◌, ◌++◌, flat_map, map, Option, Some, None, is_some, option_map, option_and_then, Result, Ok, Err, ◌⊎◌, inl, inr, refl, sym, ap, subst, ◌∙◌, true≢false, bytes_eq}
use Rattle.std.specs.List.{AllByRecursion, last_or}
use Rattle.std.specs.Option.{option_map_or, option_to_list}
use Rattle.std.specs.Result.{result_ok}
use Rattle.serde_json.specs.Data.{depth}
use Rattle.ref_paths.specs.Path.{Part}
use Rattle.ref_draft.specs.Anchors.{Kind, anchors}
use Rattle.ref_uri.specs.Targets.{Refusal}
use Rattle.ref_definitions.specs.World.{Document}
use Rattle.ref_definitions.specs.Places.{Place, root, identifier_of, children_of, levels_below, places}
use Rattle.ref_definitions.specs.Anchors.{Named, named_under}
use Rattle.ref_definitions.specs.Moving.{below_path}
use Rattle.ref_bundle_laws.proofs.LawAlike.{AreAlike, BothAlike, alike_append, filter_alike, map_alike}
use Rattle.ref_bundle_laws.proofs.LawEntries.{Under, NamedAs, borne_by, named_by, IsOther, AllOther}

-- a place where the tree of a document was put
pub record Embedding : Type 0 where
  pub place : Place
  pub document : Document

-- the places of a document below its root
abbrev pub below_root : Document → List Place
below_root d = levels_below (depth d.tree) (root d ∷ [])

-- the places of the bundle that come of a document
abbrev pub part_of : Embedding → List Place
part_of x = x.place ∷ map (below_path x.place.path) (below_root x.document)

-- what is known of a place where a tree was put: its base is that of the document's root, and it has it by an identifier
pub record IsPut (x : Embedding) : Type 0 where
  pub base : List ℕ
  pub has_base : x.place.base ≡ Ok base
  pub same_base : (root x.document).base ≡ Ok base
  pub id : is_some (identifier_of x.place) ≡ true
  pub same_draft : x.place.draft ≡ x.document.draft
  pub same_anchors : anchors x.place.draft x.place.value ≡ anchors x.document.draft x.document.tree
  pub same_children : children_of x.place ≡ map (below_path x.place.path) (children_of (root x.document))

-- a place of the bundle is what became of a place of the document
abbrev pub Became : Embedding → Place → Place → Type 0
Became x q p = (q ≡ below_path x.place.path p) ⊎ ((q ≡ x.place) × (p ≡ root x.document))

abbrev pub EntryAlike : Embedding → List ℕ × Place → List ℕ × Place → Type 0
EntryAlike x e f = (e.0 ≡ f.0) × Became x e.1 f.1

pub record NameAlike (x : Embedding) (m n : Named) : Type 0 where
  pub uri : m.uri ≡ n.uri
  pub name : m.name ≡ n.name
  pub kind : m.kind ≡ n.kind
  pub place : Became x m.place n.place

-- ---- places that moved

pub one_kept : {X Y : Type 0} (R : X → Y → Type 0) (b : Bool) (x : X) (y : Y) → R x y → AreAlike R (cond b (x ∷ []) []) (cond b (y ∷ []) [])
one_kept R true x y both = (both, tt)
one_kept R false x y both = tt

-- entries of one URI
pub entries_of : (x : Embedding) (uri : List ℕ) (q p : Place) (id : Option (List ℕ)) (base : Result (List ℕ) Refusal) → Became x q p
    → AreAlike (EntryAlike x) (Under uri (option_to_list (option_map (λ u. (u, q)) (option_and_then (λ i. result_ok base) id)))) (Under uri (option_to_list (option_map (λ u. (u, p)) (option_and_then (λ i. result_ok base) id))))
entries_of x uri q p None base became = tt
entries_of x uri q p (Some id) (Ok base) became = one_kept (EntryAlike x) (bytes_eq base uri) (base, q) (base, p) (refl, became)
entries_of x uri q p (Some id) (Err refusal) became = tt

pub moved_entries : (x : Embedding) (uri : List ℕ) (ps : List Place) → AreAlike (EntryAlike x) (flat_map (borne_by uri) (map (below_path x.place.path) ps)) (flat_map (borne_by uri) ps)
moved_entries x uri [] = tt
moved_entries x uri (p ∷ ps) =
    alike_append (EntryAlike x) (borne_by uri (below_path x.place.path p)) (flat_map (borne_by uri) (map (below_path x.place.path) ps)) (borne_by uri p) (flat_map (borne_by uri) ps)
    (entries_of x uri (below_path x.place.path p) p (identifier_of p) p.base (inl refl)) (moved_entries x uri ps)

-- names of anchors
pub names_of : (x : Embedding) (uri name base : List ℕ) (q p : Place) (cs : List (List ℕ × Kind)) → Became x q p
    → AreAlike (NameAlike x) (NamedAs uri name (map (λ a. record { uri = base; name = a.0; kind = a.1; place = q }) cs)) (NamedAs uri name (map (λ a. record { uri = base; name = a.0; kind = a.1; place = p }) cs))
names_of x uri name base q p cs became =
    filter_alike (NameAlike x) (λ (e : Named). bytes_eq e.uri uri && bytes_eq e.name name) (λ (e : Named). bytes_eq e.uri uri && bytes_eq e.name name)
    (map (λ a. record { uri = base; name = a.0; kind = a.1; place = q }) cs) (map (λ a. record { uri = base; name = a.0; kind = a.1; place = p }) cs)
    (λ m n alike. ap (λ u. bytes_eq u uri && bytes_eq m.name name) alike.uri ∙ ap (λ t. bytes_eq n.uri uri && bytes_eq t name) alike.name)
    (map_alike (NameAlike x) (λ a. record { uri = base; name = a.0; kind = a.1; place = q }) (λ a. record { uri = base; name = a.0; kind = a.1; place = p }) cs
    (λ a. record { uri = refl; name = refl; kind = refl; place = became }))

names_with : (x : Embedding) (uri name : List ℕ) (p : Place) (base : Result (List ℕ) Refusal)
    → AreAlike (NameAlike x) (NamedAs uri name (option_map_or (λ b. named_under b (below_path x.place.path p)) (result_ok base) [])) (NamedAs uri name (option_map_or (λ b. named_under b p) (result_ok base) []))
names_with x uri name p (Ok base) = names_of x uri name base (below_path x.place.path p) p (anchors p.draft p.value) (inl refl)
names_with x uri name p (Err refusal) = tt

pub moved_names : (x : Embedding) (uri name : List ℕ) (ps : List Place) → AreAlike (NameAlike x) (flat_map (named_by uri name) (map (below_path x.place.path) ps)) (flat_map (named_by uri name) ps)
moved_names x uri name [] = tt
moved_names x uri name (p ∷ ps) =
    alike_append (NameAlike x) (named_by uri name (below_path x.place.path p)) (flat_map (named_by uri name) (map (below_path x.place.path) ps)) (named_by uri name p) (flat_map (named_by uri name) ps)
    (names_with x uri name p p.base) (moved_names x uri name ps)

-- ---- places whose base is another URI have it not

bears_with : (uri : List ℕ) (p : Place) (id : Option (List ℕ)) (base : Result (List ℕ) Refusal) → IsOther uri base → Under uri (option_to_list (option_map (λ u. (u, p)) (option_and_then (λ i. result_ok base) id))) ≡ []
bears_with uri p None base other = refl
bears_with uri p (Some id) (Ok base) other = ap (λ b. cond b ((base, p) ∷ []) []) other
bears_with uri p (Some id) (Err refusal) other = refl

pub bears_none : (uri : List ℕ) (ps : List Place) → AllOther uri ps → AllByRecursion (λ p. borne_by uri p ≡ []) ps
bears_none uri [] other = tt
bears_none uri (p ∷ ps) other = (bears_with uri p (identifier_of p) p.base other.0, bears_none uri ps other.1)

pub other_moved : (uri : List ℕ) (front : List Part) (ps : List Place) → AllOther uri ps → AllOther uri (map (below_path front) ps)
other_moved uri front [] other = tt
other_moved uri front (p ∷ ps) other = (other.0, other_moved uri front ps other.1)

pub part_other : (uri : List ℕ) (x : Embedding) → IsPut x → AllOther uri (places x.document) → AllOther uri (part_of x)
part_other uri x put other =
    (subst (IsOther uri) (put.same_base ∙ sym put.has_base) other.0, other_moved uri x.place.path (below_root x.document) other.1)

-- ---- the root of an embedded document

pub entry_with : (x : Embedding) (uri base : List ℕ) (id : Option (List ℕ)) → is_some id ≡ true
    → Under uri (option_to_list (option_map (λ u. (u, x.place)) (option_and_then (λ i. Some base) id))) ≡ cond (bytes_eq base uri) ((base, x.place) ∷ []) []
entry_with x uri base None has = absurd (true≢false (sym has))
entry_with x uri base (Some id) has = refl

-- the entries of its root under its URI and under its base, and that of the place
pub root_entries : (x : Embedding) (uri base : List ℕ) (b c : Bool) → bytes_eq base uri ≡ b → bytes_eq x.document.uri uri ≡ c → (c ≡ true → b ≡ true) → (id : Option (List ℕ)) → (id ≡ None → base ≡ x.document.uri)
    → BothAlike (EntryAlike x) (last_or None (cond (bytes_eq base uri) ((base, x.place) ∷ []) []))
    (last_or None (cond (bytes_eq x.document.uri uri) ((x.document.uri, root x.document) ∷ []) [] ++ Under uri (option_to_list (option_map (λ u. (u, root x.document)) (option_and_then (λ i. Some base) id)))))
root_entries x uri base true true is own same None none =
    rw (is, own) (sym', inr (refl, refl))
  where
    sym' : base ≡ x.document.uri
    sym' = none refl
root_entries x uri base true true is own same (Some id) none = rw (is, own) (refl, inr (refl, refl))
root_entries x uri base true false is own same None none = absurd (true≢false (sym is' ∙ own))
  where
    is' : bytes_eq x.document.uri uri ≡ true
    is' = subst (λ u. bytes_eq u uri ≡ true) (none refl) is
root_entries x uri base true false is own same (Some id) none = rw (is, own) (refl, inr (refl, refl))
root_entries x uri base false true is own same id none = absurd (true≢false (sym (same refl)))
root_entries x uri base false false is own same None none = rw (is, own) tt
root_entries x uri base false false is own same (Some id) none = rw (is, own) tt
