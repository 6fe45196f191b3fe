-- The first of joined lists.
use Rattle.std.proofs.Common.{◌≡◌, ℕ, zero, suc, ◌+◌, ◌<◌, Bool, true, false, ◌==◌, eqb-true, cond, is_some, slice_get, true≢false, List, [], ◌∷◌, ◌++◌, map, flat_map, take, length, get_or, Option, Some, None, option_map, Result, Ok, Err, IfOk, refl, ap, sym, ◌∙◌, append-nil, arith}
use Rattle.std.specs.Option.{option_to_list, option_map_or}
use Rattle.std.proofs.lemmas.List.Concat.{flat_map-append}
use Rattle.ref_definitions.specs.World.{Document, Layer, World}
use Rattle.ref_definitions.specs.Places.{Place, places}
use Rattle.serde_json.specs.Data.{Data, null, boolean, number, string, array, object}
use Rattle.serde_json.specs.Find.{as_object}
use Rattle.ref_paths.specs.Path.{path_eq}
use Rattle.ref_paths.specs.Segment.{part_of}
use Rattle.ref_paths.specs.declared.path.JsonPointerSegment.{JsonPointerSegment}
use Rattle.ref_bundle.specs.Needed.{Further, Site, sites_of_uris, site_under, Reference, Seen}
use Rattle.ref_bundle.specs.Bundle.{Problem, AddedMember, root_problems, at_path, place_problems, place_refusals, shadowed_uri, embedded_problems, reference_problems, reference_problems_by, map_refusals, shared_uri}
use Rattle.ref_bundle.specs.inner.Seen.{see, seen_in, own_uri_of}
use Rattle.ref_bundle.specs.inner.First.{first, first_found, refusals_seen, shared_seen, taken_in}
use Rattle.ref_bundle.proofs.Lists.{joined_more}

-- what comes first is first, and else the first after it
pub first_front : {X : Type 0} (xs ys : List X) (x : X) → Some x ≡ first xs → Some x ≡ first (xs ++ ys)
first_front [] ys x is = cc
first_front (y ∷ xs) ys x is = is

pub first_past : {X : Type 0} (xs ys : List X) → first xs ≡ None → first (xs ++ ys) ≡ first ys
first_past [] ys is = refl
first_past (y ∷ xs) ys is = cc

-- what one check finds, or else another
pub passed_on : {X Y E : Type 0} (said : X → Y) (xs ys : List Y) (a b : Result (Option X) E) → IfOk a (λ o. option_map said o ≡ first xs) → IfOk b (λ o. option_map said o ≡ first ys) → IfOk (first_found a b) (λ o. option_map said o ≡ first (xs ++ ys))
passed_on said xs ys (Ok None) (Ok o) before here = here ∙ sym (first_past xs ys (sym before))
passed_on said xs ys (Ok None) (Err error) before here = here
passed_on said xs ys (Ok (Some x)) b before here = first_front xs ys (said x) before
passed_on said xs ys (Err error) b before here = before

pub first_mapped : {X Y : Type 0} (f : X → Y) (xs : List X) → first (map f xs) ≡ option_map f (first xs)
first_mapped f [] = refl
first_mapped f (x ∷ xs) = refl

pub first_option : {X : Type 0} (o : Option X) → first (option_to_list o) ≡ o
first_option None = refl
first_option (Some x) = refl

pub first_single : {X Y : Type 0} (f : X → List Y) (o : Option X) → flat_map f (option_to_list o) ≡ option_map_or f o []
first_single f None = refl
first_single f (Some x) = append-nil (f x)

-- ---- loops

-- with one more that has none
pub none_more : {X Y A : Type 0} (f : Y → List A) (v : X → Y) (xs : List X) (i : ℕ) (x : X) → i < length xs → x ≡ get_or xs i x
    → first (flat_map f (map v (take i xs))) ≡ None → None ≡ first (f (v x)) → first (flat_map f (map v (take (i + 1) xs))) ≡ None
none_more f v xs i x within is before here =
    ap first (joined_more f v xs i x within is) ∙ first_past (flat_map f (map v (take i xs))) (f (v x)) before ∙ sym here

flat_cons : {Y A : Type 0} (f : Y → List A) (y : Y) (ys : List Y) → flat_map f (y ∷ ys) ≡ f y ++ flat_map f ys
flat_cons f y ys = refl

-- the first of one is the first of all, where those before have none
pub found_here : {X Y A : Type 0} (f : Y → List A) (v : X → Y) (xs : List X) (i : ℕ) (x : X) (a : A) → i < length xs → x ≡ get_or xs i x
    → first (flat_map f (map v (take i xs))) ≡ None → Some a ≡ first (f (v x)) → Some a ≡ first (flat_map f (map v xs))
found_here f v [] i x a within is before here = absurd (omega (arith, within))
found_here f v (y ∷ xs) zero x a within is before here = first_front (f (v y)) (flat_map f (map v xs)) a (here ∙ ap (λ z. first (f (v z))) is)
found_here f v (y ∷ xs) (suc i) x a within is before here =
    let none = nothing (f (v y)) (flat_map f (map v (take i xs))) before in
    found_here f v xs i x a (omega (arith, within)) is (sym (first_past (f (v y)) (flat_map f (map v (take i xs))) none) ∙ before) here
    ∙ sym (first_past (f (v y)) (flat_map f (map v xs)) none)
  where
    nothing : {A : Type 0} (xs ys : List A) → first (xs ++ ys) ≡ None → first xs ≡ None
    nothing [] ys is = refl
    nothing (x ∷ xs) ys is = cc

-- ---- the refusals of places

pub of_places : (layer : Layer) (fs : Further) (world : World) (top e : ℕ × Document) → flat_map (refusals_seen layer fs world top e.1.uri) (seen_in e) ≡ place_refusals layer fs world top e
of_places layer fs world top e = of_list (places e.1)
  where
    of_list : (ps : List Place) → flat_map (refusals_seen layer fs world top e.1.uri) (map (see e.0) ps) ≡ flat_map (λ p. map (at_path e.0 p.path) (place_problems layer fs world top e p)) ps
    of_list [] = refl
    of_list (p ∷ ps) = ap (λ l. map (at_path e.0 p.path) (place_problems layer fs world top e p) ++ l) (of_list ps)

-- ---- the refusals of references and definitions

pub embedded_is : (layer : Layer) (fs : Further) (world : World) (top : ℕ × Document) (r : Reference) (s : Site) (d : Document) → site_under layer r.uri ≡ Some s → (s.0 == top.0) ≡ false → slice_get layer s.0 ≡ Some d
    → embedded_problems top.1.draft r s.1 d ≡ reference_problems layer fs world top r
embedded_is layer fs world top r s d under other at =
    let f = embedded_problems top.1.draft r s.1 in
    sym (ap (reference_problems_by layer fs world top r) under ∙ ap (λ b. cond b (root_problems layer fs top r s.1) (option_map_or f (slice_get layer s.0) [])) other ∙ ap (λ o. option_map_or f o []) at)

pub embedded_not : (layer : Layer) (fs : Further) (world : World) (top : ℕ × Document) (r : Reference) (s : Site) → site_under layer r.uri ≡ Some s → (s.0 == top.0) ≡ false → slice_get layer s.0 ≡ None → [] ≡ reference_problems layer fs world top r
embedded_not layer fs world top r s under other at =
    let f = embedded_problems top.1.draft r s.1 in
    sym (ap (reference_problems_by layer fs world top r) under ∙ ap (λ b. cond b (root_problems layer fs top r s.1) (option_map_or f (slice_get layer s.0) [])) other ∙ ap (λ o. option_map_or f o []) at)

pub of_top : (layer : Layer) (fs : Further) (world : World) (top : ℕ × Document) (r : Reference) (s : Site) → site_under layer r.uri ≡ Some s → (s.0 == top.0) ≡ true → root_problems layer fs top r s.1 ≡ reference_problems layer fs world top r
of_top layer fs world top r s under same =
    sym (ap (reference_problems_by layer fs world top r) under ∙ ap (λ b. cond b (root_problems layer fs top r s.1) (option_map_or (embedded_problems top.1.draft r s.1) (slice_get layer s.0) [])) same)

pub of_parent : (layer : Layer) (fs : Further) (world : World) (top : ℕ × Document) (r : Reference) → site_under layer r.uri ≡ None → shadowed_uri layer world r ≡ first (reference_problems layer fs world top r)
of_parent layer fs world top r under =
    sym (ap (λ o. first (reference_problems_by layer fs world top r o)) under ∙ first_option (shadowed_uri layer world r))

pub map_is : (top : ℕ) (keyword : List ℕ) (value : Data) (es : List (ℕ × Document)) → is_some (as_object value) ≡ true → flat_map (taken_in top keyword value) es ≡ map_refusals top keyword (Some value) es
map_is top keyword null es is = absurd (true≢false (sym is))
map_is top keyword (boolean b) es is = absurd (true≢false (sym is))
map_is top keyword (number n) es is = absurd (true≢false (sym is))
map_is top keyword (string s) es is = absurd (true≢false (sym is))
map_is top keyword (array ds) es is = absurd (true≢false (sym is))
map_is top keyword (object ms) es is = refl

root_list : (b : Bool) (uri : List ℕ) → option_to_list (cond b (Some uri) None) ≡ cond b (uri ∷ []) []
root_list true uri = refl
root_list false uri = refl

-- the URIs of a place are that of its document, and its own
pub shared_parts : (layer : Layer) (uri : List ℕ) (s : Seen)
    → flat_map (shared_uri (sites_of_uris layer) (s.document, s.path)) (option_to_list (cond (path_eq s.path []) (Some uri) None)) ++ flat_map (shared_uri (sites_of_uris layer) (s.document, s.path)) (option_to_list (own_uri_of s))
    ≡ shared_seen layer uri s
shared_parts layer uri s =
    let f : List ℕ → List Problem = shared_uri (sites_of_uris layer) (s.document, s.path) in
    ap (λ l. flat_map f l ++ flat_map f (option_to_list (own_uri_of s))) (root_list (path_eq s.path []) uri)
    ∙ sym (flat_map-append f (cond (path_eq s.path []) (uri ∷ []) []) (option_to_list (own_uri_of s)))

-- a pointer to what is added
pub member_by : (test : List ℕ → Bool) (uri key : List ℕ) (o : Option (List ℕ)) (b : Bool) → o ≡ Some key → test key ≡ b
    → cond b (Some (AddedMember uri key)) None ≡ first (option_map_or (λ k. cond (test k) (AddedMember uri k ∷ []) []) o [])
member_by test uri key o b is tested =
    by_test b ∙ sym (ap (λ x. first (cond x (AddedMember uri key ∷ []) [])) tested) ∙ sym (ap (λ x. first (option_map_or (λ k. cond (test k) (AddedMember uri k ∷ []) []) x [])) is)
  where
    by_test : (x : Bool) → cond x (Some (AddedMember uri key)) None ≡ first (cond x (AddedMember uri key ∷ []) [])
    by_test true = refl
    by_test false = refl

-- a path of no parts
pub empty_path : (path : List JsonPointerSegment) (b : Bool) → b ≡ (length path == 0) → path_eq (map part_of path) [] ≡ b
empty_path [] b is = sym is
empty_path (p ∷ path) true is = absurd (omega (arith, eqb-true (length (p ∷ path)) 0 (sym is)))
empty_path (p ∷ path) false is = refl
