-- The bundle of the documents that the program gathered.
use Rattle.std.proofs.Common.{◌≡◌, ℕ, zero, suc, ◌+◌, Bool, true, false, not, ◌==◌, ◌&&◌, cond, List, [], ◌∷◌, ◌++◌, map, flat_map, filter, slice_get, Option, Some, None, option_map, Ok, Err, refl, ap, sym, ◌∙◌, arith}
use Rattle.std.specs.Option.{option_map_or}
use Rattle.std.proofs.lemmas.Option.{slice_get-map}
use Rattle.ref_definitions.specs.World.{Document, Layer, World}
use Rattle.ref_bundle.specs.Needed.{Further, counted_documents, is_among, numbers_of_needed, needed_documents}
use Rattle.ref_bundle.specs.Bundle.{Bundle, BundleRefusal, NoDocument, at_path, refusals_in, refusals, to_embed, unless_refused, bundle_of, bundle_among}
use Rattle.ref_bundle.specs.inner.Reach.{is_marked, AreMarked}
use Rattle.ref_bundle.specs.inner.First.{first}
use Rattle.ref_bundle.specs.inner.Seen.{numbered_document, document_in, layer_in}
use Rattle.ref_bundle.specs.declared.own.Own.{Own}
use Rattle.ref_bundle.proofs.Filters.{filter_and, filter_turned, filter_alike}

marked_documents : (layer : Layer) (fs : Further) (n : ℕ) (marks : List Bool) → AreMarked layer fs n marks → filter (λ e. is_marked marks e.0) (counted_documents 0 layer) ≡ needed_documents layer fs n
marked_documents layer fs n marks are = filter_alike (λ e. is_marked marks e.0) (λ e. is_among (numbers_of_needed layer fs n) e.0) (λ e. are e.0) (counted_documents 0 layer)

-- the parts are the documents that have to be embedded
pub parts_are : (layer : Layer) (fs : Further) (n : ℕ) (marks : List Bool) → AreMarked layer fs n marks → filter (λ e. not (e.0 == n) && is_marked marks e.0) (counted_documents 0 layer) ≡ to_embed layer fs n
parts_are layer fs n marks are =
    filter_and (λ e. not (e.0 == n)) (λ e. is_marked marks e.0) (counted_documents 0 layer)
    ∙ filter_turned (λ e. is_marked marks e.0) (λ e. not (e.0 == n)) (counted_documents 0 layer)
    ∙ ap (filter (λ e. not (e.0 == n))) (marked_documents layer fs n marks are)

flat_step : {X A : Type 0} (b : Bool) (f : X → List A) (x : X) (xs : List X) (rest : List A) → rest ≡ flat_map f xs → cond b (f x) [] ++ rest ≡ flat_map f (cond b (x ∷ xs) xs)
flat_step true f x xs rest is = ap (λ l. f x ++ l) is
flat_step false f x xs rest is = is

flat_if : {X A : Type 0} (t : X → Bool) (f : X → List A) (xs : List X) → flat_map (λ x. cond (t x) (f x) []) xs ≡ flat_map f (filter t xs)
flat_if t f [] = refl
flat_if t f (x ∷ xs) = flat_step (t x) f x (filter t xs) (flat_map (λ y. cond (t y) (f y) []) xs) (flat_if t f xs)

-- and their refusals those of the needed documents
pub refusals_are : (layer : Layer) (fs : Further) (world : World) (n : ℕ) (marks : List Bool) (top : ℕ × Document) (es : List (ℕ × Document)) → top.0 ≡ n → AreMarked layer fs n marks
    → flat_map (λ e. cond (is_marked marks e.0) (refusals_in layer fs world top es e) []) (counted_documents 0 layer) ≡ refusals layer fs world top es
refusals_are layer fs world n marks top es same are =
    flat_if (λ e. is_marked marks e.0) (refusals_in layer fs world top es) (counted_documents 0 layer)
    ∙ ap (flat_map (refusals_in layer fs world top es)) (marked_documents layer fs n marks are ∙ ap (needed_documents layer fs) (sym same))

pub bundled_is : (layer : Layer) (fs : Further) (world : World) (n : ℕ) (d : Document) → slice_get layer n ≡ Some d
    → bundle_among layer fs world n ≡ unless_refused (refusals layer fs world (n, d) (to_embed layer fs n)) (bundle_of d (to_embed layer fs n))
bundled_is layer fs world n d at =
    ap (λ o. option_map_or (λ top. unless_refused (refusals layer fs world (n, top) (to_embed layer fs n)) (bundle_of top (to_embed layer fs n))) o (Err (at_path n [] NoDocument))) at

pub not_bundled : (layer : Layer) (fs : Further) (world : World) (n : ℕ) → slice_get layer n ≡ None → bundle_among layer fs world n ≡ Err (at_path n [] NoDocument)
not_bundled layer fs world n at =
    ap (λ o. option_map_or (λ top. unless_refused (refusals layer fs world (n, top) (to_embed layer fs n)) (bundle_of top (to_embed layer fs n))) o (Err (at_path n [] NoDocument))) at

pub refused_first : (rs : List BundleRefusal) (b : Bundle) (r : BundleRefusal) → first rs ≡ Some r → unless_refused rs b ≡ Err r
refused_first [] b r is = cc
refused_first (x ∷ rs) b r is = ap (λ y. Err y) (let e : x ≡ r = cc in e)

pub not_refused : (rs : List BundleRefusal) (b : Bundle) → first rs ≡ None → unless_refused rs b ≡ Ok b
not_refused [] b is = refl
not_refused (x ∷ rs) b is = cc

-- ---- the documents of a registry

documents_counted : (k : ℕ) (ds : Layer) → map (λ e. e.1) (counted_documents k ds) ≡ ds
documents_counted k [] = refl
documents_counted k (d ∷ ds) = ap (λ l. d ∷ l) (documents_counted (suc k) ds)

of_numbered : (owns : List Own) → map (λ e. e.1) (map numbered_document owns) ≡ layer_in owns
of_numbered [] = refl
of_numbered (o ∷ owns) = ap (λ l. document_in o ∷ l) (of_numbered owns)

pub layer_is : (owns : List Own) (layer : Layer) → map numbered_document owns ≡ counted_documents 0 layer → layer_in owns ≡ layer
layer_is owns layer is = sym (of_numbered owns) ∙ ap (map (λ (e : ℕ × Document). e.1)) is ∙ documents_counted 0 layer

counted_at : (k : ℕ) (ds : Layer) (i : ℕ) (e : ℕ × Document) → slice_get (counted_documents k ds) i ≡ Some e → e.0 ≡ k + i
counted_at k [] i e is = cc
counted_at k (d ∷ ds) zero e is = let same : (k, d) ≡ e = cc in sym (ap (λ (x : ℕ × Document). x.0) same) ∙ omega arith
counted_at k (d ∷ ds) (suc i) e is = counted_at (suc k) ds i e is ∙ omega arith

-- the document at a place has that number
pub number_at : (owns : List Own) (layer : Layer) (i : ℕ) (o : Own) → map numbered_document owns ≡ counted_documents 0 layer → slice_get owns i ≡ Some o → o.number ≡ i
number_at owns layer i o is at =
    counted_at 0 layer i (numbered_document o) (sym (ap (λ l. slice_get l i) is) ∙ slice_get-map numbered_document owns i ∙ ap (option_map numbered_document) at) ∙ omega arith

-- ---- the first refusal, and the bundle

pub first_is : (layer : Layer) (fs : Further) (world : World) (n : ℕ) (d : Document) (marks : List Bool) (t : ℕ × Document) (es xs : List (ℕ × Document)) (o : Option BundleRefusal)
    → xs ≡ counted_documents 0 layer → AreMarked layer fs n marks → t ≡ (n, d) → es ≡ to_embed layer fs n
    → o ≡ first (flat_map (λ e. cond (is_marked marks e.0) (refusals_in layer fs world t es e) []) xs) → o ≡ first (refusals layer fs world (n, d) (to_embed layer fs n))
first_is layer fs world n d marks t es xs o all are top embeds is =
    is
    ∙ ap (λ u. first (flat_map (λ e. cond (is_marked marks e.0) (refusals_in layer fs world u es e) []) xs)) top
    ∙ ap (λ gs. first (flat_map (λ e. cond (is_marked marks e.0) (refusals_in layer fs world (n, d) gs e) []) xs)) embeds
    ∙ ap (λ ys. first (flat_map (λ e. cond (is_marked marks e.0) (refusals_in layer fs world (n, d) (to_embed layer fs n) e) []) ys)) all
    ∙ ap first (refusals_are layer fs world n marks (n, d) (to_embed layer fs n) refl are)

pub is_refused : (layer : Layer) (fs : Further) (world : World) (n : ℕ) (d : Document) (r : BundleRefusal) → slice_get layer n ≡ Some d → Some r ≡ first (refusals layer fs world (n, d) (to_embed layer fs n)) → bundle_among layer fs world n ≡ Err r
is_refused layer fs world n d r at is = bundled_is layer fs world n d at ∙ refused_first (refusals layer fs world (n, d) (to_embed layer fs n)) (bundle_of d (to_embed layer fs n)) r (sym is)

pub is_bundle : (layer : Layer) (fs : Further) (world : World) (n : ℕ) (d : Document) (b : Bundle) → slice_get layer n ≡ Some d → None ≡ first (refusals layer fs world (n, d) (to_embed layer fs n)) → b ≡ bundle_of d (to_embed layer fs n) → bundle_among layer fs world n ≡ Ok b
is_bundle layer fs world n d b at is same =
    bundled_is layer fs world n d at ∙ not_refused (refusals layer fs world (n, d) (to_embed layer fs n)) (bundle_of d (to_embed layer fs n)) (sym is) ∙ ap (λ x. Ok x) (sym same)
