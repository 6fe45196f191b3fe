-- What a bundle that isn't refused says of the documents that it needs.
use Rattle.std.proofs.Common.{◌≡◌, ℕ, suc, ◌≤◌, ◌<◌, Bool, true, false, not, cond, ◌&&◌, ◌==◌, eqb-true, List, [], ◌∷◌, ◌++◌, flat_map, map, filter, Option, Some, None, option_map, bytes_eq, ◌⊎◌, inl, inr, ⊎_elim, refl, sym, ap, subst, ◌∙◌, arith}
use Rattle.std.specs.List.{AllByRecursion, Contains, last_or}
use Rattle.std.specs.Option.{option_map_or, option_to_list}
use Rattle.std.proofs.lemmas.Slice.Eq.{bytes_eq-Decides}
use Rattle.std.proofs.lemmas.List.Elements.{filter-append, All-contains, All-from_recursion, Contains-append_right}
use Rattle.ref_paths.specs.Path.{path_eq}
use Rattle.ref_draft.proofs.Lists.{all_filter}
use Rattle.ref_definitions.specs.World.{Document, Layer}
use Rattle.ref_definitions.specs.Places.{Place, root, places}
use Rattle.ref_definitions.specs.Resources.{own_uri, resource_of, resources_in, last_under}
use Rattle.ref_bundle.specs.Needed.{counted_documents, Site, borne_in, sites_of_uris, site_under, document_under}
use Rattle.ref_bundle.specs.Bundle.{SharedUri, is_site, shared_uri, uris_of}
use Rattle.ref_bundle_laws.proofs.LawEntries.{IsFree, free, each_none, filter_flat, not_first, not_later}
use Rattle.ref_definitions.proofs.Lists.{first_or_later, in_one_of, in_mapped, all_left, all_right}

-- ---- documents with their numbers

pub above : (number : ℕ) (ds : Layer) (least : ℕ) → least ≤ number → AllByRecursion (λ e. least ≤ e.0) (counted_documents number ds)
above number [] least more = tt
above number (d ∷ ds) least more = (more, above (suc number) ds least (omega (arith, more)))

-- a counted document among the others, whose numbers are other ones
pub record IsCounted (es : List (ℕ × Document)) (x : ℕ × Document) : Type 0 where
  pub before : List (ℕ × Document)
  pub after : List (ℕ × Document)
  pub are : es ≡ before ++ x ∷ after
  pub front : AllByRecursion (λ e. ¬ (e.0 ≡ x.0)) before
  pub back : AllByRecursion (λ e. ¬ (e.0 ≡ x.0)) after

pub not_equal : (least : ℕ) (n : ℕ) (es : List (ℕ × Document)) → n < least → AllByRecursion (λ e. least ≤ e.0) es → AllByRecursion (λ e. ¬ (e.0 ≡ n)) es
not_equal least n [] less each = tt
not_equal least n (e ∷ es) less each = (λ same. omega (arith, less, each.0, same), not_equal least n es less each.1)

number_of : (number : ℕ) (ds : Layer) (x : ℕ × Document) → Contains (counted_documents number ds) x → number ≤ x.0
number_of number ds x there =
    All-contains (λ e. number ≤ e.0) (counted_documents number ds) x (All-from_recursion _ (counted_documents number ds) (above number ds number (omega arith))) there

counted_here : (number : ℕ) (d : Document) (ds : Layer) (x : ℕ × Document) → (number, d) ≡ x → IsCounted ((number, d) ∷ counted_documents (suc number) ds) x
counted_here number d ds x same = record {
  before = [];
  after = counted_documents (suc number) ds;
  are = ap (λ e. e ∷ counted_documents (suc number) ds) same;
  front = tt;
  back = not_equal (suc number) x.0 (counted_documents (suc number) ds) (subst (λ n. n < suc number) (ap (λ (e : ℕ × Document). e.0) same) (omega arith)) (above (suc number) ds (suc number) (omega arith));
}

counted_later : (number : ℕ) (d : Document) (ds : Layer) (x : ℕ × Document) → Contains (counted_documents (suc number) ds) x → IsCounted (counted_documents (suc number) ds) x → IsCounted ((number, d) ∷ counted_documents (suc number) ds) x
counted_later number d ds x below_path rest =
    let more = number_of (suc number) ds x below_path in
    record {
      before = (number, d) ∷ rest.before;
      after = rest.after;
      are = ap (λ es. (number, d) ∷ es) rest.are;
      front = (λ same. omega (arith, more, same), rest.front);
      back = rest.back;
    }

pub counted_one : (number : ℕ) (ds : Layer) (x : ℕ × Document) → Contains (counted_documents number ds) x → IsCounted (counted_documents number ds) x
counted_one number [] x there = absurd (omega (arith, there.1))
counted_one number (d ∷ ds) x there =
    ⊎_elim (counted_here number d ds x) (λ below_path. counted_later number d ds x below_path (counted_one (suc number) ds x below_path)) (first_or_later (number, d) (counted_documents (suc number) ds) x there)

-- and so among those that a test keeps
kept_in_order : (test : ℕ × Document → Bool) (before : List (ℕ × Document)) (x : ℕ × Document) (after : List (ℕ × Document)) → test x ≡ true → filter test (before ++ x ∷ after) ≡ filter test before ++ x ∷ filter test after
kept_in_order test before x after is = filter-append test before (x ∷ after) ∙ ap (λ b. filter test before ++ cond b (x ∷ filter test after) (filter test after)) is

pub counted_kept : (test : ℕ × Document → Bool) (es : List (ℕ × Document)) (x : ℕ × Document) → test x ≡ true → IsCounted es x → IsCounted (filter test es) x
counted_kept test es x is one = record {
  before = filter test one.before;
  after = filter test one.after;
  are = ap (filter test) one.are ∙ kept_in_order test one.before x one.after is;
  front = all_filter (λ e. ¬ (e.0 ≡ x.0)) test one.before one.front;
  back = all_filter (λ e. ¬ (e.0 ≡ x.0)) test one.after one.back;
}

-- ---- elements of lists

-- the last of what a test keeps was there, and passes
pub record IsKeptThere {X : Type 0} (test : X → Bool) (xs : List X) (x : X) : Type 0 where
  pub there : Contains xs x
  pub passes : test x ≡ true

kept_past : {X : Type 0} (test : X → Bool) (y : X) (ys : List X) (x : X) → IsKeptThere test ys x → IsKeptThere test (y ∷ ys) x
kept_past test y ys x kept = record { there = Contains-append_right (y ∷ []) ys x kept.there; passes = kept.passes }

last_kept_at : {X : Type 0} (test : X → Bool) (y : X) (ys : List X) (x : X) (o : Option X) (b : Bool) → test y ≡ b
    → ((p : Option X) → last_or p (filter test ys) ≡ Some x → (p ≡ Some x) ⊎ IsKeptThere test ys x)
    → last_or o (cond b (y ∷ filter test ys) (filter test ys)) ≡ Some x → (o ≡ Some x) ⊎ IsKeptThere test (y ∷ ys) x
last_kept_at test y ys x o true is later last =
    ⊎_elim
    (λ own. let same : y ≡ x = cc in inr (record { there = (0, omega arith, same); passes = subst (λ z. test z ≡ true) same is }))
    (λ kept. inr (kept_past test y ys x kept))
    (later (Some y) last)
last_kept_at test y ys x o false is later last = ⊎_elim (λ own. inl own) (λ kept. inr (kept_past test y ys x kept)) (later o last)

pub last_kept : {X : Type 0} (test : X → Bool) (xs : List X) (x : X) (o : Option X) → last_or o (filter test xs) ≡ Some x → (o ≡ Some x) ⊎ IsKeptThere test xs x
last_kept test [] x o last = inl last
last_kept test (y ∷ ys) x o last = last_kept_at test y ys x o (test y) refl (λ p is. last_kept test ys x p is) last

some_last : {X : Type 0} (y : X) (ys : List X) → last_or (Some y) ys ≡ None → ⊥
some_last y [] last = let e : Some y ≡ None = last in cc
some_last y (z ∷ ys) last = some_last z ys last

pub last_none : {X : Type 0} (xs : List X) → last_or None xs ≡ None → xs ≡ []
last_none [] is = refl
last_none (x ∷ xs) is = absurd (some_last x xs is)

-- ---- a URI that no other place has

pub none_of_shared : (entries : List (List ℕ × Site)) (o : Option (List ℕ × Site)) (uri : List ℕ)
    → option_map_or (λ (other : Site). SharedUri uri other.0 other.1 ∷ []) (option_map_or (λ (e : List ℕ × Site). Some e.1) o None) [] ≡ [] → o ≡ None
none_of_shared entries None uri is = refl
none_of_shared entries (Some e) uri is = absurd (let x : SharedUri uri e.1.0 e.1.1 ∷ [] ≡ [] = is in cc)

kept_of_mapped : {X Y : Type 0} (test : Y → Bool) (plain : X → Bool) (f : X → Y) (xs : List X) → ((x : X) → test (f x) ≡ plain x) → filter test (map f xs) ≡ [] → filter plain xs ≡ []
kept_of_mapped test plain f [] same none = refl
kept_of_mapped test plain f (x ∷ xs) same none =
    ap (λ b. cond b (x ∷ filter plain xs) (filter plain xs)) (sym (same x) ∙ not_first (f x) (filter test (map f xs)) (test (f x)) none)
    ∙ kept_of_mapped test plain f xs same (not_later (f x) (filter test (map f xs)) (test (f x)) none)

and_true : (b : Bool) → (b && true) ≡ b
and_true true = refl
and_true false = refl

pub other_number : (m n : ℕ) (b : Bool) → (m == n) ≡ b → ¬ (m ≡ n) → b ≡ false
other_number m n true is other = absurd (other (eqb-true m n is))
other_number m n false is other = refl

-- whether an entry is of another place
abbrev pub is_of_another : List ℕ → Site → List ℕ × Site → Bool
is_of_another uri site e = bytes_eq e.0 uri && not (is_site e.1 site)

no_entry_in : (uri : List ℕ) (site : Site) (e : ℕ × Document) → ¬ (e.0 ≡ site.0) → filter (is_of_another uri site) (borne_in e) ≡ [] → IsFree uri e.1
no_entry_in uri site e other none =
    free uri e.1
    (kept_of_mapped (is_of_another uri site) (λ r. bytes_eq r.0 uri) (λ r. (r.0, (e.0, r.1.path))) (resources_in e.1)
    (λ r. ap (λ b. bytes_eq r.0 uri && not (b && path_eq r.1.path site.1)) (other_number e.0 site.0 (e.0 == site.0) refl other) ∙ and_true (bytes_eq r.0 uri)) none)

each_free : (uri : List ℕ) (site : Site) (es : List (ℕ × Document)) → AllByRecursion (λ e. filter (is_of_another uri site) (borne_in e) ≡ []) es → AllByRecursion (λ e. ¬ (e.0 ≡ site.0) → IsFree uri e.1) es
each_free uri site [] none = tt
each_free uri site (e ∷ es) none = ((λ other. no_entry_in uri site e other none.0), each_free uri site es none.1)

-- where the site of a URI is its only one, the documents with other numbers don't have it
pub free_but : (layer : Layer) (site : Site) (uri : List ℕ) → shared_uri (sites_of_uris layer) site uri ≡ [] → AllByRecursion (λ e. ¬ (e.0 ≡ site.0) → IsFree uri e.1) (counted_documents 0 layer)
free_but layer site uri none =
    let kept = none_of_shared (sites_of_uris layer) (last_or None (filter (is_of_another uri site) (sites_of_uris layer))) uri none in
    each_free uri site (counted_documents 0 layer)
    (each_none (λ e. filter (is_of_another uri site) (borne_in e)) (counted_documents 0 layer)
    (sym (filter_flat (is_of_another uri site) borne_in (counted_documents 0 layer)) ∙ last_none (filter (is_of_another uri site) (sites_of_uris layer)) kept))

-- a document that alone has a URI, among some
pub record IsAlone (uri : List ℕ) (es : List (ℕ × Document)) (x : ℕ × Document) : Type 0 where
  pub before : List (ℕ × Document)
  pub after : List (ℕ × Document)
  pub are : es ≡ before ++ x ∷ after
  pub front : AllByRecursion (λ e. IsFree uri e.1) before
  pub back : AllByRecursion (λ e. IsFree uri e.1) after

other_free : (uri : List ℕ) (n : ℕ) (es : List (ℕ × Document)) → AllByRecursion (λ e. ¬ (e.0 ≡ n)) es → AllByRecursion (λ e. ¬ (e.0 ≡ n) → IsFree uri e.1) es → AllByRecursion (λ e. IsFree uri e.1) es
other_free uri n [] other free_ = tt
other_free uri n (e ∷ es) other free_ = (free_.0 other.0, other_free uri n es other.1 free_.1)

pub alone_among : (uri : List ℕ) (es : List (ℕ × Document)) (x : ℕ × Document) → IsCounted es x → AllByRecursion (λ e. ¬ (e.0 ≡ x.0) → IsFree uri e.1) es → IsAlone uri es x
alone_among uri es x one free_ =
    let P = λ (e : ℕ × Document). ¬ (e.0 ≡ x.0) → IsFree uri e.1 in
    let all : AllByRecursion P (one.before ++ x ∷ one.after) = subst (AllByRecursion P) one.are free_ in
    record {
      before = one.before;
      after = one.after;
      are = one.are;
      front = other_free uri x.0 one.before one.front (all_left P one.before (x ∷ one.after) all);
      back = other_free uri x.0 one.after one.back (all_right P one.before (x ∷ one.after) all).1;
    }

-- ---- the document that a URI means

-- a place of a document has a URI
pub record IsBearer (layer : Layer) (uri : List ℕ) (x : ℕ × Document) (p : Place) : Type 0 where
  pub document : Contains (counted_documents 0 layer) x
  pub place : Contains (places x.1) p
  pub bears : Contains (uris_of x.1 p) uri

own_entry : (uri : List ℕ) (p q : Place) (o : Option (List ℕ)) → Contains {X = List ℕ × Place} (option_to_list (option_map (λ u. (u, p)) o)) (uri, q) → Contains (option_to_list o) uri
own_entry uri p q None there = absurd (omega (arith, there.1))
own_entry uri p q (Some u) there =
    ⊎_elim (λ same. (0, omega arith, ap (λ (e : List ℕ × Place). e.0) same)) (λ later. absurd (omega (arith, later.1))) (first_or_later (u, p) [] (uri, q) there)

-- an entry is of a place that has its URI
pub bearer_in : (d : Document) (uri : List ℕ) (q : Place) → Contains (resources_in d) (uri, q) → (p : Place) × Contains (places d) p × Contains (uris_of d p) uri
bearer_in d uri q there =
    ⊎_elim
    (λ own. (root d, (0, omega arith, refl), (0, omega arith, ap (λ (e : List ℕ × Place). e.0) own)))
    (λ later.
    let found = in_one_of resource_of (places d) (uri, q) later in
    (found.0, found.1, Contains-append_right (cond (path_eq found.0.path []) (d.uri ∷ []) []) (option_to_list (own_uri found.0)) uri (own_entry uri found.0 q (own_uri found.0) found.2)))
    (first_or_later (d.uri, root d) (flat_map resource_of (places d)) (uri, q) there)

sited : (o : Option (List ℕ × Site)) (s : Site) → option_map (λ (e : List ℕ × Site). e.1) o ≡ Some s → (e : List ℕ × Site) × (o ≡ Some e) × (e.1 ≡ s)
sited None s is = absurd (let x : None ≡ Some s = is in cc)
sited (Some e) s is = (e, refl, let x : Some e.1 ≡ Some s = is in cc)

-- the last entry under a URI is one of it
pub site_entry : (layer : Layer) (uri : List ℕ) (s : Site) → site_under layer uri ≡ Some s → (e : List ℕ × Site) × (e.1 ≡ s) × IsKeptThere (λ (f : List ℕ × Site). bytes_eq f.0 uri) (sites_of_uris layer) e
site_entry layer uri s is =
    let last = sited (last_under uri (sites_of_uris layer)) s is in
    (last.0, last.2, kept last.0 (last_kept (λ (e : List ℕ × Site). bytes_eq e.0 uri) (sites_of_uris layer) last.0 None last.1))
  where
    kept : (e : List ℕ × Site) → (None ≡ Some e) ⊎ IsKeptThere (λ (f : List ℕ × Site). bytes_eq f.0 uri) (sites_of_uris layer) e → IsKeptThere (λ (f : List ℕ × Site). bytes_eq f.0 uri) (sites_of_uris layer) e
    kept e (inl none) = absurd (let x : None ≡ Some e = none in cc)
    kept e (inr there) = there

pub site_bears : (layer : Layer) (uri : List ℕ) (s : Site) → site_under layer uri ≡ Some s → (x : ℕ × Document) × (p : Place) × (x.0 ≡ s.0) × IsBearer layer uri x p
site_bears layer uri s is =
    let found = site_entry layer uri s is in
    let e = found.0 in
    let of_document = in_one_of borne_in (counted_documents 0 layer) e found.2.there in
    let entry = in_mapped (λ (r : List ℕ × Place). (r.0, (of_document.0.0, r.1.path))) (resources_in of_document.0.1) e of_document.2 in
    let uris : entry.0.0 ≡ uri = ap (λ (f : List ℕ × Site). f.0) entry.2 ∙ (bytes_eq-Decides e.0 uri).0 found.2.passes in
    let bearer = bearer_in of_document.0.1 uri entry.0.1 (subst (λ u. Contains (resources_in of_document.0.1) (u, entry.0.1)) uris entry.1) in
    (of_document.0, bearer.0, ap (λ (f : List ℕ × Site). f.1.0) entry.2 ∙ ap (λ (t : Site). t.0) found.1, record { document = of_document.1; place = bearer.1; bears = bearer.2 })

numbered : (o : Option Site) (k : ℕ) → option_map (λ (s : Site). s.0) o ≡ Some k → (s : Site) × (o ≡ Some s) × (s.0 ≡ k)
numbered None k is = absurd (let x : None ≡ Some k = is in cc)
numbered (Some s) k is = (s, refl, let x : Some s.0 ≡ Some k = is in cc)

pub document_bears : (layer : Layer) (uri : List ℕ) (k : ℕ) → document_under layer uri ≡ Some k → (x : ℕ × Document) × (p : Place) × (x.0 ≡ k) × IsBearer layer uri x p
document_bears layer uri k is =
    let s = numbered (site_under layer uri) k is in
    let found = site_bears layer uri s.0 s.1 in
    (found.0, found.1, found.2 ∙ s.2, found.3)

-- a URI that means no place belongs to no document
no_entry : (o : Option (List ℕ × Site)) → option_map (λ (e : List ℕ × Site). e.1) o ≡ None → o ≡ None
no_entry None is = refl
no_entry (Some e) is = absurd (let x : Some e.1 ≡ None = is in cc)

each_without : (uri : List ℕ) (es : List (ℕ × Document)) → AllByRecursion (λ e. filter (λ (f : List ℕ × Site). bytes_eq f.0 uri) (borne_in e) ≡ []) es → AllByRecursion (λ e. IsFree uri e.1) es
each_without uri [] none = tt
each_without uri (e ∷ es) none =
    (free uri e.1 (kept_of_mapped (λ (f : List ℕ × Site). bytes_eq f.0 uri) (λ r. bytes_eq r.0 uri) (λ r. (r.0, (e.0, r.1.path))) (resources_in e.1) (λ r. refl) none.0), each_without uri es none.1)

pub none_bears : (layer : Layer) (uri : List ℕ) → site_under layer uri ≡ None → AllByRecursion (λ e. IsFree uri e.1) (counted_documents 0 layer)
none_bears layer uri is =
    let test = λ (f : List ℕ × Site). bytes_eq f.0 uri in
    let none = last_none (filter test (sites_of_uris layer)) (no_entry (last_under uri (sites_of_uris layer)) is) in
    each_without uri (counted_documents 0 layer)
    (each_none (λ e. filter test (borne_in e)) (counted_documents 0 layer) (sym (filter_flat test borne_in (counted_documents 0 layer)) ∙ none))
