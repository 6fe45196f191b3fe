-- Which URIs mean in a bundle what they meant: those that needed places refer to, and those that they have.
use Rattle.std.proofs.Common.{◌≡◌, ℕ, Bool, true, false, not, cond, ◌&&◌, ◌==◌, eqb-true, eq-eqb, List, [], ◌∷◌, Option, Some, None, option_map, Ok, bytes_eq, slice_get, refl, sym, ap, subst, ◌∙◌, true≢false}
use Rattle.std.specs.List.{AllByRecursion, Contains}
use Rattle.std.specs.Option.{option_map_or}
use Rattle.ref_draft.proofs.Lists.{all_filter}
use Rattle.ref_definitions.specs.World.{Document, Layer, World}
use Rattle.ref_definitions.specs.Places.{Place, places}
use Rattle.ref_paths.specs.Path.{Part, path_eq}
use Rattle.ref_bundle.specs.Needed.{Further, Seen, further_in, counted_documents, Site, site_under, document_under, Reference, references_from, references, targets, is_among, numbers_of_needed, needed_documents}
use Rattle.ref_bundle.specs.Embedding.{base_uri}
use Rattle.ref_bundle.specs.Bundle.{ReplacedUri, uris_of, replaced_in, added_in, embedded_problems, root_problems, reference_problems_by, reference_problems, to_embed}
use Rattle.ref_bundle_laws.proofs.LawEntries.{IsFree, front_empty}
use Rattle.ref_bundle_laws.proofs.LawBorne.{IsPut}
use Rattle.ref_bundle_laws.proofs.LawEmbedded.{base_is}
use Rattle.ref_bundle_laws.proofs.LawMeans.{IsNoAlias}
use Rattle.ref_bundle_laws.proofs.LawPlaces.{put_in}
use Rattle.ref_bundle_laws.proofs.LawNeeded.{counted_one, counted_kept, IsAlone, alone_among, site_bears, none_bears}
use Rattle.ref_bundle_laws.proofs.LawClosed.{got_at, passes_kept, kept_in, target_needed, seen_needed}
use Rattle.ref_bundle_laws.proofs.LawBundled.{none_in, no_problem, no_reference_problem, no_seen_problem}
use Rattle.ref_bundle_laws.proofs.LawFacts.{IsMade, root_counted, needed_counted, embedded_needed, others_free, put_of}
use Rattle.ref_bundle_laws.proofs.LawMeaning.{IsClear, borne_by_none, borne_by_root, borne_by_embedded}
use Rattle.ref_definitions.proofs.Lists.{each_in, in_mapped, all_of, in_map}

-- ---- a URI that a needed place has

-- documents that are embedded have other numbers than the root
embedded_free : (layer : Layer) (fs : Further) (n : ℕ) (uri : List ℕ) → AllByRecursion (λ e. ¬ (e.0 ≡ n) → IsFree uri e.1) (counted_documents 0 layer) → AllByRecursion (λ e. IsFree uri e.1) (to_embed layer fs n)
embedded_free layer fs n uri free_ =
    all_of (λ e. IsFree uri e.1) (to_embed layer fs n)
    (λ e there.
    let need = embedded_needed layer fs n e there in
    each_in (λ x. ¬ (x.0 ≡ n) → IsFree uri x.1) (counted_documents 0 layer) e free_ (needed_counted layer fs n e need.0) need.1)

alone_embedded : (layer : Layer) (fs : Further) (n : ℕ) (uri : List ℕ) (x : ℕ × Document) → Contains (to_embed layer fs n) x → AllByRecursion (λ e. ¬ (e.0 ≡ x.0) → IsFree uri e.1) (counted_documents 0 layer) → IsAlone uri (to_embed layer fs n) x
alone_embedded layer fs n uri x there free_ =
    let outer = passes_kept (λ (e : ℕ × Document). not (e.0 == n)) (needed_documents layer fs n) x there in
    let inner = passes_kept (λ (e : ℕ × Document). is_among (numbers_of_needed layer fs n) e.0) (counted_documents 0 layer) x outer.0 in
    alone_among uri (to_embed layer fs n) x
    (counted_kept (λ (e : ℕ × Document). not (e.0 == n)) (needed_documents layer fs n) x outer.1
    (counted_kept (λ (e : ℕ × Document). is_among (numbers_of_needed layer fs n) e.0) (counted_documents 0 layer) x inner.1 (counted_one 0 layer x inner.0)))
    (all_filter (λ e. ¬ (e.0 ≡ x.0) → IsFree uri e.1) (λ (e : ℕ × Document). not (e.0 == n)) (needed_documents layer fs n)
    (all_filter (λ e. ¬ (e.0 ≡ x.0) → IsFree uri e.1) (λ (e : ℕ × Document). is_among (numbers_of_needed layer fs n) e.0) (counted_documents 0 layer) free_))

-- an embedded document's identifier does not replace a URI by another
abbrev pub Stays : ℕ → ℕ × Document → List ℕ → Type 0
Stays n x uri = ¬ (x.0 ≡ n) → bytes_eq x.1.uri uri ≡ true → bytes_eq (base_uri x.1) uri ≡ true

no_alias : (layer : Layer) (n : ℕ) (top : Document) (uri : List ℕ) (x : ℕ × Document) → IsPut (put_in top x) → ¬ (x.0 ≡ n) → Stays n x uri → IsNoAlias uri (put_in top x)
no_alias layer n top uri x put other stays own base is =
    let same : base_uri x.1 ≡ base =
    base_is x.1 put.base put.same_base ∙ (let e : Ok put.base ≡ Ok base = sym put.has_base ∙ is in cc) in
    subst (λ b. bytes_eq b uri ≡ true) same (stays other own)

clear_by : (layer : Layer) (fs : Further) (n : ℕ) (top : Document) → IsMade layer fs n top → (x : ℕ × Document) (uri : List ℕ) → Contains (needed_documents layer fs n) x → AllByRecursion (λ e. ¬ (e.0 ≡ x.0) → IsFree uri e.1) (counted_documents 0 layer)
    → Stays n x uri → (b : Bool) → (x.0 == n) ≡ b → IsClear layer n top (to_embed layer fs n) uri
clear_by layer fs n top is x uri need free_ stays true own =
    let own_number : x.0 ≡ n = eqb-true x.0 n own in
    let there = needed_counted layer fs n x need in
    let tops : Some x.1 ≡ Some top = sym (got_at layer x there) ∙ ap (slice_get layer) own_number ∙ is.at in
    let own_document : x.1 ≡ top = cc in
    let both : x ≡ (n, top) = ap (λ k. (k, x.1)) own_number ∙ ap (λ d. (n, d)) own_document in
    borne_by_root (subst (IsAlone uri (counted_documents 0 layer)) both (alone_among uri (counted_documents 0 layer) x (counted_one 0 layer x there) free_))
    (embedded_free layer fs n uri (subst (λ k. AllByRecursion (λ e. ¬ (e.0 ≡ k) → IsFree uri e.1) (counted_documents 0 layer)) own_number free_))
clear_by layer fs n top is x uri need free_ stays false own =
    let other : ¬ (x.0 ≡ n) = λ same. true≢false (sym (eq-eqb x.0 n same) ∙ own) in
    let there = needed_counted layer fs n x need in
    let embedded = kept_in (λ (e : ℕ × Document). not (e.0 == n)) (needed_documents layer fs n) x need (ap not own) in
    borne_by_embedded x embedded (alone_among uri (counted_documents 0 layer) x (counted_one 0 layer x there) free_) (alone_embedded layer fs n uri x embedded free_)
    (each_in (λ e. ¬ (e.0 ≡ x.0) → IsFree uri e.1) (counted_documents 0 layer) (n, top) free_ (root_counted layer n top is.at) (λ same. other (sym same)))
    (no_alias layer n top uri x (put_of layer fs n top is x embedded) other stays)

pub clear_borne : (layer : Layer) (fs : Further) (n : ℕ) (top : Document) → IsMade layer fs n top → (x : ℕ × Document) (p : Place) (uri : List ℕ) → Contains (needed_documents layer fs n) x → Contains (places x.1) p → Contains (uris_of x.1 p) uri
    → Stays n x uri → IsClear layer n top (to_embed layer fs n) uri
clear_borne layer fs n top is x p uri need place bears stays =
    clear_by layer fs n top is x uri need (others_free layer fs n top is x p uri need place bears) stays (x.0 == n) refl

-- ---- a URI that none has

pub clear_free : (layer : Layer) (fs : Further) (n : ℕ) (top : Document) → IsMade layer fs n top → (uri : List ℕ) → AllByRecursion (λ e. IsFree uri e.1) (counted_documents 0 layer) → IsClear layer n top (to_embed layer fs n) uri
clear_free layer fs n top is uri free_ =
    borne_by_none free_
    (all_filter (λ e. IsFree uri e.1) (λ (e : ℕ × Document). not (e.0 == n)) (needed_documents layer fs n) (all_filter (λ e. IsFree uri e.1) (λ (e : ℕ × Document). is_among (numbers_of_needed layer fs n) e.0) (counted_documents 0 layer) free_))
    (each_in (λ e. IsFree uri e.1) (counted_documents 0 layer) (n, top) free_ (root_counted layer n top is.at))

-- ---- a URI that a needed place refers to

not_both : (a b : Bool) (uri base : List ℕ) → cond (a && not b) (ReplacedUri uri base ∷ []) [] ≡ [] → a ≡ true → b ≡ true
not_both true true uri base none is = refl
not_both true false uri base none is = absurd (let e : ReplacedUri uri base ∷ [] ≡ [] = none in cc)
not_both false b uri base none is = absurd (true≢false (sym is))

stays_by : (layer : Layer) (fs : Further) (n : ℕ) (top : Document) (r : Reference) (path : List Part) (x : ℕ × Document) (b : Bool) → (x.0 == n) ≡ b → cond b (root_problems layer fs (n, top) r path) (option_map_or (embedded_problems top.draft r path) (slice_get layer x.0) []) ≡ [] → slice_get layer x.0 ≡ Some x.1 → Stays n x r.uri
stays_by layer fs n top r path x true same none at other own = absurd (other (eqb-true x.0 n same))
stays_by layer fs n top r path x false same none at other own =
    let all : embedded_problems top.draft r path x.1 ≡ [] = sym (ap (λ o. option_map_or (embedded_problems top.draft r path) o []) at) ∙ none in
    not_both (bytes_eq x.1.uri r.uri) (bytes_eq (base_uri x.1) r.uri) r.uri (base_uri x.1) (front_empty (replaced_in r.uri x.1) (cond (path_eq path []) (added_in top.draft r x.1) []) all) own

-- what makes a reference of a needed place clear: the document that it means is needed, and it has no problem
pub record IsClearReference (layer : Layer) (fs : Further) (n : ℕ) (top : Document) (world : World) (r : Reference) : Type 0 where
  pub needed : (x : ℕ × Document) → document_under layer r.uri ≡ Some x.0 → Contains (counted_documents 0 layer) x → Contains (needed_documents layer fs n) x
  pub quiet : reference_problems layer fs world (n, top) r ≡ []

clear_reference_by : (layer : Layer) (fs : Further) (n : ℕ) (top : Document) → (is : IsMade layer fs n top) → (r : Reference) → IsClearReference layer fs n top is.world r
    → (o : Option Site) → site_under layer r.uri ≡ o → IsClear layer n top (to_embed layer fs n) r.uri
clear_reference_by layer fs n top is r clear None means = clear_free layer fs n top is r.uri (none_bears layer r.uri means)
clear_reference_by layer fs n top is r clear (Some s) means =
    let found = site_bears layer r.uri s means in
    let x = found.0 in
    let own : document_under layer r.uri ≡ Some x.0 = ap (option_map (λ (t : Site). t.0)) means ∙ ap (λ m. Some m) (sym found.2) in
    let bearer = found.3 in
    let at = got_at layer x bearer.document in
    let x_needed = clear.needed x own bearer.document in
    let none : reference_problems_by layer fs is.world (n, top) r (Some s) ≡ [] =
    sym (ap (reference_problems_by layer fs is.world (n, top) r) means) ∙ clear.quiet in
    let of_x : cond (x.0 == n) (root_problems layer fs (n, top) r s.1) (option_map_or (embedded_problems top.draft r s.1) (slice_get layer x.0) []) ≡ [] =
    subst (λ m. cond (m == n) (root_problems layer fs (n, top) r s.1) (option_map_or (embedded_problems top.draft r s.1) (slice_get layer m) []) ≡ []) (sym found.2) none in
    clear_borne layer fs n top is x found.1 r.uri x_needed bearer.place bearer.bears (stays_by layer fs n top r s.1 x (x.0 == n) refl of_x at)

pub clear_reference : (layer : Layer) (fs : Further) (n : ℕ) (top : Document) → (is : IsMade layer fs n top) → (r : Reference) → IsClearReference layer fs n top is.world r → IsClear layer n top (to_embed layer fs n) r.uri
clear_reference layer fs n top is r clear = clear_reference_by layer fs n top is r clear (site_under layer r.uri) refl

-- a reference of a place of a needed document is so
pub place_reference : (layer : Layer) (fs : Further) (n : ℕ) (top : Document) → (is : IsMade layer fs n top) → (e : ℕ × Document) (p : Place) (r : Reference) → Contains (needed_documents layer fs n) e → Contains (places e.1) p → Contains (references p) r
    → IsClearReference layer fs n top is.world r
place_reference layer fs n top is e p r need place refers = record {
  needed = λ x own document.
      target_needed layer fs (n, top) e x p r.uri (root_counted layer n top is.at) need place (in_map (λ (q : Reference). q.uri) (references p) r refers) own document;
  quiet = no_reference_problem layer fs is.world (n, top) e p r (no_problem layer fs is.world n top e p (none_in layer fs is.world n top e is.unrefused need) place) refers;
}

-- and one of a further place of it
pub seen_reference : (layer : Layer) (fs : Further) (n : ℕ) (top : Document) → (is : IsMade layer fs n top) → (e : ℕ × Document) (s : Seen) (r : Reference) → Contains (needed_documents layer fs n) e → Contains (further_in fs e.0) s → Contains (references_from s.base s.value) r
    → IsClearReference layer fs n top is.world r
seen_reference layer fs n top is e s r need place refers = record {
  needed = λ x own document.
      seen_needed layer fs (n, top) e x s r.uri (root_counted layer n top is.at) need place (in_map (λ (q : Reference). q.uri) (references_from s.base s.value) r refers) own document;
  quiet = no_seen_problem layer fs is.world n top e s r (none_in layer fs is.world n top e is.unrefused need) place refers;
}

pub clear_target : (layer : Layer) (fs : Further) (n : ℕ) (top : Document) → IsMade layer fs n top → (e : ℕ × Document) (p : Place) (uri : List ℕ) → Contains (needed_documents layer fs n) e → Contains (places e.1) p → Contains (targets p) uri
    → IsClear layer n top (to_embed layer fs n) uri
clear_target layer fs n top is e p uri need place target =
    let from = in_mapped (λ (q : Reference). q.uri) (references p) uri target in
    subst (IsClear layer n top (to_embed layer fs n)) from.2 (clear_reference layer fs n top is from.0 (place_reference layer fs n top is e p from.0 need place from.1))
