-- What is known of a root and of the documents to embed, where a bundle isn't refused.
use Rattle.std.proofs.Common.{◌≡◌, ℕ, Bool, true, false, cond, ◌==◌, eqb-true, eq-eqb, List, [], ◌∷◌, ◌++◌, flat_map, map, filter, Option, Some, None, Ok, Err, slice_get, refl, sym, ap, ◌∙◌, arith}
use Rattle.std.specs.List.{AllByRecursion, Contains}
use Rattle.std.specs.Option.{option_map_or, option_to_list}
use Rattle.std.proofs.lemmas.List.Elements.{Contains-append_right}
use Rattle.ref_definitions.specs.World.{Document, Layer, World}
use Rattle.ref_definitions.specs.Places.{Place, places}
use Rattle.ref_bundle.specs.Needed.{Further, Seen, further_in, needed_documents, sites_of_uris, Reference, references_from, references}
use Rattle.ref_bundle.specs.Embedding.{obstacle, Obstacle}
use Rattle.ref_bundle.specs.Bundle.{Bundle, BundleRefusal, NotEmbedded, NoDocument, shared_uri, uris_of, reference_problems, place_problems, seen_problems, place_refusals, seen_refusals, further_refusals, at_path, root_refusals, refusals_in, refusals, to_embed, unless_refused, bundle_of, bundle_among}
use Rattle.ref_bundle_laws.proofs.LawEntries.{each_none, front_empty, back_empty}
use Rattle.ref_definitions.proofs.Lists.{each_in}

-- ---- no refusal

unrefused : (rs : List BundleRefusal) (b bundle : Bundle) → unless_refused rs b ≡ Ok bundle → (rs ≡ []) × (bundle ≡ b)
unrefused [] b bundle is = (refl, let e : Ok b ≡ Ok bundle = is in cc)
unrefused (r ∷ rs) b bundle is = absurd (let e : Err r ≡ Ok bundle = is in cc)

pub not_refused : (layer : Layer) (fs : Further) (world : World) (n : ℕ) (top : Document) (bundle : Bundle) → slice_get layer n ≡ Some top → bundle_among layer fs world n ≡ Ok bundle
    → (refusals layer fs world (n, top) (to_embed layer fs n) ≡ []) × (bundle ≡ bundle_of top (to_embed layer fs n))
not_refused layer fs world n top bundle at is =
    unrefused (refusals layer fs world (n, top) (to_embed layer fs n)) (bundle_of top (to_embed layer fs n)) bundle
    (sym (ap (λ o. option_map_or (λ t. unless_refused (refusals layer fs world (n, t) (to_embed layer fs n)) (bundle_of t (to_embed layer fs n))) o (Err (at_path n [] NoDocument))) at) ∙ is)

-- of each needed document nothing is refused
pub none_in : (layer : Layer) (fs : Further) (world : World) (n : ℕ) (top : Document) (x : ℕ × Document) → refusals layer fs world (n, top) (to_embed layer fs n) ≡ [] → Contains (needed_documents layer fs n) x → refusals_in layer fs world (n, top) (to_embed layer fs n) x ≡ []
none_in layer fs world n top x none there =
    each_in (λ e. refusals_in layer fs world (n, top) (to_embed layer fs n) e ≡ []) (needed_documents layer fs n) x
    (each_none (refusals_in layer fs world (n, top) (to_embed layer fs n)) (needed_documents layer fs n) none) there

abbrev whole_refusals : ℕ × Document → List (ℕ × Document) → ℕ × Document → List BundleRefusal
whole_refusals top es e = cond (e.0 == top.0) (root_refusals top es) (map (λ o. at_path e.0 [] (NotEmbedded o)) (option_to_list (obstacle top.1 e.1)))

no_obstacle_by : (n : ℕ) (o : Option Obstacle) → map (λ o. at_path n [] (NotEmbedded o)) (option_to_list o) ≡ [] → o ≡ None
no_obstacle_by n None is = refl
no_obstacle_by n (Some o) is = absurd (let e : at_path n [] (NotEmbedded o) ∷ [] ≡ [] = is in cc)

is_other : (m n : ℕ) (b : Bool) → (m == n) ≡ b → ¬ (m ≡ n) → (m == n) ≡ false
is_other m n true is other = absurd (other (eqb-true m n is))
is_other m n false is other = is

pub no_obstacle : (layer : Layer) (fs : Further) (world : World) (n : ℕ) (top : Document) (x : ℕ × Document) → refusals_in layer fs world (n, top) (to_embed layer fs n) x ≡ [] → ¬ (x.0 ≡ n) → obstacle top x.1 ≡ None
no_obstacle layer fs world n top x none other =
    let first = front_empty (whole_refusals (n, top) (to_embed layer fs n) x) (place_refusals layer fs world (n, top) x) (front_empty (whole_refusals (n, top) (to_embed layer fs n) x ++ place_refusals layer fs world (n, top) x) (further_refusals layer fs world (n, top) x.0) none) in
    no_obstacle_by x.0 (obstacle top x.1)
    (sym (ap (λ b. cond b (root_refusals (n, top) (to_embed layer fs n)) (map (λ o. at_path x.0 [] (NotEmbedded o)) (option_to_list (obstacle top x.1)))) (is_other x.0 n (x.0 == n) refl other)) ∙ first)

pub no_root_refusal : (layer : Layer) (fs : Further) (world : World) (n : ℕ) (top : Document) → refusals_in layer fs world (n, top) (to_embed layer fs n) (n, top) ≡ [] → root_refusals (n, top) (to_embed layer fs n) ≡ []
no_root_refusal layer fs world n top none =
    let first = front_empty (whole_refusals (n, top) (to_embed layer fs n) (n, top)) (place_refusals layer fs world (n, top) (n, top)) (front_empty (whole_refusals (n, top) (to_embed layer fs n) (n, top) ++ place_refusals layer fs world (n, top) (n, top)) (further_refusals layer fs world (n, top) n) none) in
    sym (ap (λ b. cond b (root_refusals (n, top) (to_embed layer fs n)) (map (λ o. at_path n [] (NotEmbedded o)) (option_to_list (obstacle top top)))) (eq-eqb n n refl)) ∙ first

pub none_mapped : {X Y : Type 0} (f : X → Y) (xs : List X) → map f xs ≡ [] → xs ≡ []
none_mapped f [] is = refl
none_mapped f (x ∷ xs) is = absurd (let e : f x ∷ map f xs ≡ [] = is in cc)

-- no problem of a place of a needed document
pub no_problem : (layer : Layer) (fs : Further) (world : World) (n : ℕ) (top : Document) (x : ℕ × Document) (p : Place) → refusals_in layer fs world (n, top) (to_embed layer fs n) x ≡ [] → Contains (places x.1) p → place_problems layer fs world (n, top) x p ≡ []
no_problem layer fs world n top x p none there =
    let rest = back_empty (whole_refusals (n, top) (to_embed layer fs n) x) (place_refusals layer fs world (n, top) x) (front_empty (whole_refusals (n, top) (to_embed layer fs n) x ++ place_refusals layer fs world (n, top) x) (further_refusals layer fs world (n, top) x.0) none) in
    none_mapped (at_path x.0 p.path) (place_problems layer fs world (n, top) x p)
    (each_in (λ q. map (at_path x.0 q.path) (place_problems layer fs world (n, top) x q) ≡ []) (places x.1) p
    (each_none (λ q. map (at_path x.0 q.path) (place_problems layer fs world (n, top) x q)) (places x.1) rest) there)

-- and of a reference of its further places
pub no_seen_problem : (layer : Layer) (fs : Further) (world : World) (n : ℕ) (top : Document) (x : ℕ × Document) (s : Seen) (r : Reference) → refusals_in layer fs world (n, top) (to_embed layer fs n) x ≡ [] → Contains (further_in fs x.0) s
    → Contains (references_from s.base s.value) r → reference_problems layer fs world (n, top) r ≡ []
no_seen_problem layer fs world n top x s r none there refers =
    let rest = back_empty (whole_refusals (n, top) (to_embed layer fs n) x ++ place_refusals layer fs world (n, top) x) (further_refusals layer fs world (n, top) x.0) none in
    let quiet : seen_problems layer fs world (n, top) s ≡ [] =
    none_mapped (at_path s.document s.path) (seen_problems layer fs world (n, top) s)
    (each_in (λ t. seen_refusals layer fs world (n, top) t ≡ []) (further_in fs x.0) s (each_none (seen_refusals layer fs world (n, top)) (further_in fs x.0) rest) there) in
    each_in (λ q. reference_problems layer fs world (n, top) q ≡ []) (references_from s.base s.value) r
    (each_none (reference_problems layer fs world (n, top)) (references_from s.base s.value) quiet) refers

pub not_shared : (layer : Layer) (fs : Further) (world : World) (top x : ℕ × Document) (p : Place) (uri : List ℕ) → place_problems layer fs world top x p ≡ [] → Contains (uris_of x.1 p) uri → shared_uri (sites_of_uris layer) (x.0, p.path) uri ≡ []
not_shared layer fs world top x p uri none there =
    each_in (λ u. shared_uri (sites_of_uris layer) (x.0, p.path) u ≡ []) (uris_of x.1 p) uri
    (each_none (shared_uri (sites_of_uris layer) (x.0, p.path)) (uris_of x.1 p)
    (front_empty (flat_map (shared_uri (sites_of_uris layer) (x.0, p.path)) (uris_of x.1 p)) (flat_map (reference_problems layer fs world top) (references p)) none)) there

pub no_reference_problem : (layer : Layer) (fs : Further) (world : World) (top x : ℕ × Document) (p : Place) (r : Reference) → place_problems layer fs world top x p ≡ [] → Contains (references p) r → reference_problems layer fs world top r ≡ []
no_reference_problem layer fs world top x p r none there =
    each_in (λ q. reference_problems layer fs world top q ≡ []) (references p) r
    (each_none (reference_problems layer fs world top) (references p)
    (back_empty (flat_map (shared_uri (sites_of_uris layer) (x.0, p.path)) (uris_of x.1 p)) (flat_map (reference_problems layer fs world top) (references p)) none)) there

-- ---- a root that others are embedded in

-- it is an object, and has no refusal of its definitions
pub object_unless_refused : (b : Bool) (rest : List BundleRefusal) (r : BundleRefusal) → cond b rest (r ∷ []) ≡ [] → (b ≡ true) × (rest ≡ [])
object_unless_refused true rest r none = (refl, none)
object_unless_refused false rest r none = absurd (let e : r ∷ [] ≡ [] = none in cc)

-- ---- filters

pub none_pass : {X : Type 0} (test : X → Bool) (xs : List X) → AllByRecursion (λ x. test x ≡ false) xs → filter test xs ≡ []
none_pass test [] none = refl
none_pass test (x ∷ xs) none = ap (λ b. cond b (x ∷ filter test xs) (filter test xs)) none.0 ∙ none_pass test xs none.1

pub agree : {X : Type 0} (t u : X → Bool) (xs : List X) → ((x : X) → Contains xs x → t x ≡ u x) → filter t xs ≡ filter u xs
agree t u [] same = refl
agree t u (x ∷ xs) same =
    ap (λ b. cond b (x ∷ filter t xs) (filter t xs)) (same x (0, omega arith, refl))
    ∙ ap (λ ys. cond (u x) (x ∷ ys) ys) (agree t u xs (λ y there. same y (Contains-append_right (x ∷ []) xs y there)))
