-- A bundle's root has room for what is embedded, and each embedded document is put there with its base.
use Rattle.std.proofs.Common.{◌≡◌, ℕ, suc, ◌+◌, Bool, true, false, not, cond, ◌==◌, eq-eqb, List, [], ◌∷◌, ◌++◌, map, filter, Option, Some, None, is_some, option_and_then, Result, Ok, slice_get, ◌⊎◌, inl, inr, ⊎_elim, refl, sym, ap, subst, ◌∙◌, true≢false, arith}
use Rattle.std.specs.Bool.{⊤}
use Rattle.std.specs.List.{AllByRecursion, Contains}
use Rattle.std.specs.Option.{option_to_list}
use Rattle.std.specs.Result.{result_ok}
use Rattle.std.proofs.lemmas.Slice.Eq.{bytes_eq-Decides}
use Rattle.std.proofs.lemmas.List.Elements.{Contains-append_right}
use Rattle.serde_json.specs.Data.{Data, null, boolean, number, string, array, object, Members, no_members}
use Rattle.serde_json.specs.Find.{get, get_member, as_object}
use Rattle.ref_paths.specs.Path.{Key}
use Rattle.ref_draft.specs.declared.draft.Draft.{Draft}
use Rattle.ref_draft.specs.Children.{is_object, InKeyOrder}
use Rattle.ref_draft.specs.Schema.{identifier}
use Rattle.ref_draft.proofs.Lists.{all_filter}
use Rattle.ref_uri.specs.Targets.{Refusal}
use Rattle.ref_definitions.specs.World.{Document, Layer, World}
use Rattle.ref_definitions.specs.Places.{Place, root, base_within, places}
use Rattle.ref_definitions.specs.Wants.{faults}
use Rattle.ref_definitions.proofs.AtOrBelow.{place_has_base}
use Rattle.ref_bundle_laws.specs.Merges.{IsMergeOf}
use Rattle.ref_bundle.specs.Needed.{Further, counted_documents, is_among, numbers_of_needed, needed_documents}
use Rattle.ref_bundle.specs.Embedding.{NotAnObject, base_uri}
use Rattle.ref_bundle.specs.Bundle.{Bundle, BundleRefusal, NotEmbedded, NoMap, KeyTaken, definitions_keyword, members_or_none, member_of, uris_of, at_path, taken_key, map_refusals, root_refusals, refusals, to_embed, bundle_of}
use Rattle.ref_bundle_laws.specs.Kept.{IsBundle, document_of_bundle, places_of_embedded, places_of_root}
use Rattle.ref_bundle_laws.proofs.LawEntries.{IsFree, IsOther, each_none}
use Rattle.ref_bundle_laws.proofs.LawBorne.{IsPut}
use Rattle.ref_bundle_laws.proofs.LawPut.{embeddable}
use Rattle.ref_bundle_laws.proofs.LawEmbedded.{base_is, put_there}
use Rattle.ref_bundle_laws.proofs.LawTree.{KeysApart, NoneTaken}
use Rattle.ref_bundle_laws.proofs.LawPlaces.{HasRoomFor, put_in, AllPut, places_merge}
use Rattle.ref_bundle_laws.proofs.LawNeeded.{above, not_equal, free_but}
use Rattle.ref_bundle_laws.proofs.LawClosed.{counted_at, passes_kept, root_needed}
use Rattle.ref_bundle_laws.proofs.LawBundled.{not_refused, none_in, no_obstacle, no_root_refusal, no_problem, not_shared, object_unless_refused}
use Rattle.ref_definitions.proofs.Lists.{first_or_later, each_in, all_of}

-- ---- bases

pub in_layer : (k : ℕ) (ds : Layer) (x : ℕ × Document) → Contains (counted_documents k ds) x → Contains ds x.1
in_layer k [] x there = absurd (omega (arith, there.1))
in_layer k (d ∷ ds) x there =
    ⊎_elim (λ same. (0, omega arith, ap (λ (e : ℕ × Document). e.1) same)) (λ later. Contains-append_right (d ∷ []) ds x.1 (in_layer (suc k) ds x later)) (first_or_later (k, d) (counted_documents (suc k) ds) x there)

pub root_base : (layer : Layer) (x : ℕ × Document) → faults layer ≡ [] → Contains (counted_documents 0 layer) x → (root x.1).base ≡ Ok (base_uri x.1)
root_base layer x none there =
    let base = place_has_base layer x.1 (root x.1) none (in_layer 0 layer x there) (0, omega arith, refl) in
    base.1 ∙ ap (λ u. Ok u) (sym (base_is x.1 base.0 base.1))

base_borne_by : (d : Document) (id : Option (List ℕ)) (base : List ℕ) → base_within d.uri id ≡ Ok base → Contains ((d.uri ∷ []) ++ option_to_list (option_and_then (λ i. result_ok (base_within d.uri id)) id)) base
base_borne_by d None base is = (0, omega arith, let e : Ok d.uri ≡ Ok base = is in cc)
base_borne_by d (Some id) base is = Contains-append_right (d.uri ∷ []) (option_to_list (result_ok (base_within d.uri (Some id)))) base (subst (λ r. Contains (option_to_list (result_ok r)) base) (sym is) (0, omega arith, refl))

pub base_borne : (d : Document) (base : List ℕ) → (root d).base ≡ Ok base → Contains (uris_of d (root d)) base
base_borne d base is = base_borne_by d (identifier d.draft d.tree) base is

-- ---- a bundle that isn't refused, of the own documents of a world

pub record IsMade (layer : Layer) (fs : Further) (n : ℕ) (top : Document) : Type 0 where
  pub world : World
  pub no_fault : faults layer ≡ []
  pub at : slice_get layer n ≡ Some top
  pub in_order : InKeyOrder top.tree
  pub unrefused : refusals layer fs world (n, top) (to_embed layer fs n) ≡ []

pub made : (layer : Layer) (fs : Further) (parents : World) (n : ℕ) (top : Document) (bundle : Bundle) → IsBundle layer fs parents n top bundle → (is : IsMade layer fs n top) × (is.world ≡ layer ∷ parents) × (bundle ≡ bundle_of top (to_embed layer fs n))
made layer fs parents n top bundle is =
    let both = not_refused layer fs (layer ∷ parents) n top bundle is.root is.is in
    (record { world = layer ∷ parents; no_fault = is.no_fault; at = is.root; in_order = is.in_order; unrefused = both.0 }, refl, both.1)

pub root_counted : (layer : Layer) (n : ℕ) (top : Document) → slice_get layer n ≡ Some top → Contains (counted_documents 0 layer) (n, top)
root_counted layer n top at = subst (λ k. Contains (counted_documents 0 layer) (k, top)) (let e : n + 0 ≡ n = omega arith in e) (counted_at 0 layer n top at)

pub needed_counted : (layer : Layer) (fs : Further) (n : ℕ) (x : ℕ × Document) → Contains (needed_documents layer fs n) x → Contains (counted_documents 0 layer) x
needed_counted layer fs n x there = (passes_kept (λ (e : ℕ × Document). is_among (numbers_of_needed layer fs n) e.0) (counted_documents 0 layer) x there).0

pub embedded_needed : (layer : Layer) (fs : Further) (n : ℕ) (x : ℕ × Document) → Contains (to_embed layer fs n) x → Contains (needed_documents layer fs n) x × ¬ (x.0 ≡ n)
embedded_needed layer fs n x there =
    let both = passes_kept (λ (e : ℕ × Document). not (e.0 == n)) (needed_documents layer fs n) x there in
    (both.0, λ same. true≢false (sym both.1 ∙ ap not (eq-eqb x.0 n same)))

-- documents with other numbers don't have a URI that a place of a needed document has
pub others_free : (layer : Layer) (fs : Further) (n : ℕ) (top : Document) → IsMade layer fs n top → (x : ℕ × Document) (p : Place) (uri : List ℕ) → Contains (needed_documents layer fs n) x → Contains (places x.1) p → Contains (uris_of x.1 p) uri
    → AllByRecursion (λ e. ¬ (e.0 ≡ x.0) → IsFree uri e.1) (counted_documents 0 layer)
others_free layer fs n top is x p uri need place bears =
    free_but layer (x.0, p.path) uri (not_shared layer fs is.world (n, top) x p uri (no_problem layer fs is.world n top x p (none_in layer fs is.world n top x is.unrefused need) place) bears)

-- ---- the bases of documents that are embedded differ

abbrev NumbersApart : List (ℕ × Document) → Type 0
NumbersApart [] = ⊤
NumbersApart (e ∷ es) = AllByRecursion (λ f. ¬ (f.0 ≡ e.0)) es × NumbersApart es

counted_apart : (k : ℕ) (ds : Layer) → NumbersApart (counted_documents k ds)
counted_apart k [] = tt
counted_apart k (d ∷ ds) = (not_equal (suc k) k (counted_documents (suc k) ds) (omega arith) (above (suc k) ds (suc k) (omega arith)), counted_apart (suc k) ds)

kept_apart : (test : ℕ × Document → Bool) (es : List (ℕ × Document)) → NumbersApart es → NumbersApart (filter test es)
kept_apart test [] apart = tt
kept_apart test (e ∷ es) apart = by_test (test e) (kept_apart test es apart.1)
  where
    by_test : (b : Bool) → NumbersApart (filter test es) → NumbersApart (cond b (e ∷ filter test es) (filter test es))
    by_test true rest = (all_filter (λ (f : ℕ × Document). ¬ (f.0 ≡ e.0)) test es apart.0, rest)
    by_test false rest = rest

-- documents with other numbers have other bases

other_keys : (draft : Draft) (e : ℕ × Document) (es : List (ℕ × Document)) → ((f : ℕ × Document) → Contains es f → ¬ (f.0 ≡ e.0) → ¬ (base_uri f.1 ≡ base_uri e.1)) → AllByRecursion (λ f. ¬ (f.0 ≡ e.0)) es
    → AllByRecursion (λ m. ¬ (m.0 ≡ base_uri e.1)) (map (member_of draft) es)
other_keys draft e [] apart other = tt
other_keys draft e (f ∷ es) apart other =
    (apart f (0, omega arith, refl) other.0, other_keys draft e es (λ g there. apart g (Contains-append_right (f ∷ []) es g there)) other.1)

keys_apart : (draft : Draft) (es : List (ℕ × Document)) → ((e f : ℕ × Document) → Contains es e → Contains es f → ¬ (f.0 ≡ e.0) → ¬ (base_uri f.1 ≡ base_uri e.1)) → NumbersApart es → KeysApart (map (member_of draft) es)
keys_apart draft [] bases apart = tt
keys_apart draft (e ∷ es) bases apart = (
  other_keys draft e es (λ f there. bases e f (0, omega arith, refl) (Contains-append_right (e ∷ []) es f there)) apart.0,
  keys_apart draft es (λ f g there also. bases f g (Contains-append_right (e ∷ []) es f there) (Contains-append_right (e ∷ []) es g also)) apart.1,
)

pub other_base_of : (uri base : List ℕ) (r : Result (List ℕ) Refusal) → r ≡ Ok base → IsOther uri r → ¬ (base ≡ uri)
other_base_of uri base r is other same =
    true≢false (sym ((bytes_eq-Decides base uri).1 same) ∙ subst (IsOther uri) is other)

bases_apart : (layer : Layer) (fs : Further) (n : ℕ) (top : Document) → IsMade layer fs n top → (e f : ℕ × Document) → Contains (to_embed layer fs n) e → Contains (to_embed layer fs n) f → ¬ (f.0 ≡ e.0) → ¬ (base_uri f.1 ≡ base_uri e.1)
bases_apart layer fs n top is e f there also other =
    let need = (embedded_needed layer fs n e there).0 in
    let own = needed_counted layer fs n e need in
    let base = root_base layer e is.no_fault own in
    let at_f = needed_counted layer fs n f (embedded_needed layer fs n f also).0 in
    let free_ = each_in (λ x. ¬ (x.0 ≡ e.0) → IsFree (base_uri e.1) x.1) (counted_documents 0 layer) f
    (others_free layer fs n top is e (root e.1) (base_uri e.1) need (0, omega arith, refl) (base_borne e.1 (base_uri e.1) base)) at_f other in
    other_base_of (base_uri e.1) (base_uri f.1) (root f.1).base (root_base layer f is.no_fault at_f) free_.bases.0

-- ---- room

none_taken_of : (draft : Draft) (es : List (ℕ × Document)) → NoneTaken no_members (map (member_of draft) es)
none_taken_of draft [] = tt
none_taken_of draft (e ∷ es) = (refl, none_taken_of draft es)

none_there : (o : Option Data) (r : BundleRefusal) → cond (is_some o) (r ∷ []) [] ≡ [] → o ≡ None
none_there None r is = refl
none_there (Some value) r is = absurd (let e : r ∷ [] ≡ [] = is in cc)

none_taken : (n : ℕ) (keyword : List ℕ) (draft : Draft) (ms : Members) (es : List (ℕ × Document)) → AllByRecursion (λ e. taken_key n keyword ms e ≡ []) es → NoneTaken ms (map (member_of draft) es)
none_taken n keyword draft ms [] none = tt
none_taken n keyword draft ms (e ∷ es) none =
    (none_there (get_member (base_uri e.1) ms) (at_path n (Key keyword ∷ Key (base_uri e.1) ∷ []) (KeyTaken (base_uri e.1))) none.0, none_taken n keyword draft ms es none.1)

record HasPlace (keyword : List ℕ) (draft : Draft) (o : Option Data) (es : List (ℕ × Document)) : Type 0 where
  has_map : (o ≡ None) ⊎ ((few : Members) × (o ≡ Some (object few)))
  free : NoneTaken (members_or_none (option_and_then as_object o)) (map (member_of draft) es)

no_map : (n : ℕ) (keyword : List ℕ) (es : List (ℕ × Document)) (A : Type 0) → at_path n (Key keyword ∷ []) NoMap ∷ [] ≡ [] → A
no_map n keyword es A is = absurd (let e : at_path n (Key keyword ∷ []) NoMap ∷ [] ≡ [] = is in cc)

place_by : (n : ℕ) (keyword : List ℕ) (draft : Draft) (o : Option Data) (es : List (ℕ × Document)) → map_refusals n keyword o es ≡ [] → HasPlace keyword draft o es
place_by n keyword draft None es none = record { has_map = inl refl; free = none_taken_of draft es }
place_by n keyword draft (Some null) es none = no_map n keyword es _ none
place_by n keyword draft (Some (boolean b)) es none = no_map n keyword es _ none
place_by n keyword draft (Some (number x)) es none = no_map n keyword es _ none
place_by n keyword draft (Some (string s)) es none = no_map n keyword es _ none
place_by n keyword draft (Some (array ds)) es none = no_map n keyword es _ none
place_by n keyword draft (Some (object ms)) es none = record {
  has_map = inr (ms, refl);
  free = none_taken n keyword draft ms es (each_none (taken_key n keyword ms) es none);
}

room_by : (n : ℕ) (top : Document) (es : List (ℕ × Document)) → root_refusals (n, top) es ≡ [] → KeysApart (map (member_of top.draft) es) → HasRoomFor top es
room_by n top [] none apart = tt
room_by n top (e ∷ es) none apart =
    let keyword = definitions_keyword top.draft in
    let both = object_unless_refused (is_object top.tree) (map_refusals n keyword (get keyword top.tree) (e ∷ es)) (at_path n [] (NotEmbedded NotAnObject)) none in
    let place = place_by n keyword top.draft (get keyword top.tree) (e ∷ es) both.1 in
    record { object = both.0; has_map = place.has_map; free = place.free; keys_apart = apart }

pub room : (layer : Layer) (fs : Further) (n : ℕ) (top : Document) → IsMade layer fs n top → HasRoomFor top (to_embed layer fs n)
room layer fs n top is =
    let own = root_counted layer n top is.at in
    let none = none_in layer fs is.world n top (n, top) is.unrefused (root_needed layer fs (n, top) own) in
    room_by n top (to_embed layer fs n) (no_root_refusal layer fs is.world n top none)
    (keys_apart top.draft (to_embed layer fs n) (bases_apart layer fs n top is)
    (kept_apart (λ (e : ℕ × Document). not (e.0 == n)) (needed_documents layer fs n) (kept_apart (λ (e : ℕ × Document). is_among (numbers_of_needed layer fs n) e.0) (counted_documents 0 layer) (counted_apart 0 layer))))

-- ---- each is put

pub put_of : (layer : Layer) (fs : Further) (n : ℕ) (top : Document) → IsMade layer fs n top → (x : ℕ × Document) → Contains (to_embed layer fs n) x → IsPut (put_in top x)
put_of layer fs n top is x there =
    let need = embedded_needed layer fs n x there in
    put_there (definitions_keyword top.draft) (base_uri top) (base_uri x.1) top x.1
    (embeddable top x.1 (no_obstacle layer fs is.world n top x (none_in layer fs is.world n top x is.unrefused need.0) need.1))
    (root_base layer (n, top) is.no_fault (root_counted layer n top is.at))
    (root_base layer x is.no_fault (needed_counted layer fs n x need.0))

pub all_put : (layer : Layer) (fs : Further) (n : ℕ) (top : Document) → IsMade layer fs n top → AllPut top (to_embed layer fs n)
all_put layer fs n top is = all_of (λ e. IsPut (put_in top e)) (to_embed layer fs n) (put_of layer fs n top is)

-- ---- the places

pub made_places : (layer : Layer) (fs : Further) (n : ℕ) (top : Document) → IsMade layer fs n top
    → IsMergeOf Place (places (document_of_bundle top (bundle_of top (to_embed layer fs n)))) (places_of_root top (bundle_of top (to_embed layer fs n)) ∷ map (places_of_embedded top) (to_embed layer fs n))
made_places layer fs n top is =
    places_merge top (to_embed layer fs n) (root_base layer (n, top) is.no_fault (root_counted layer n top is.at)) is.in_order (room layer fs n top is) (all_put layer fs n top is)

pub bundle_places : (layer : Layer) (fs : Further) (parents : World) (n : ℕ) (top : Document) (bundle : Bundle) → IsBundle layer fs parents n top bundle
    → IsMergeOf Place (places (document_of_bundle top bundle)) (places_of_root top bundle ∷ map (places_of_embedded top) (to_embed layer fs n))
bundle_places layer fs parents n top bundle is =
    let both = made layer fs parents n top bundle is in
    subst (λ b. IsMergeOf Place (places (document_of_bundle top b)) (places_of_root top b ∷ map (places_of_embedded top) (to_embed layer fs n))) (sym both.2) (made_places layer fs n top both.0)
