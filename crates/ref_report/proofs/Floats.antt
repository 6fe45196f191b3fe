-- A request without floats has documents without floats.
use Rattle.std.proofs.Common.{◌≡◌, ℕ, zero, suc, Bool, true, false, ◌||◌, List, [], ◌∷◌, Option, Some, None, IfSome, option_map, Ok, ok_or, is_some, codes, cond, subst, Ordering, Less, Equal, Greater, nat_cmp, refl}
use Rattle.std.specs.List.{AllByRecursion}
use Rattle.std.specs.Ordering.{match_ordering}
use Rattle.std.specs.Result.{result_ok}
use Rattle.std.specs.Cmp.Lexicographic.{slice_cmp}
use Rattle.serde_json.specs.Data.{Data, null, boolean, number, string, array, object, Items, no_items, item, Members, no_members, member}
use Rattle.serde_json.specs.Find.{get, at, get_item, get_member, as_str}
use Rattle.serde_json.specs.Written.{has_float, items_have_float, members_have_float}
use Rattle.ref_uri.specs.Targets.{uri_of}
use Rattle.ref_report.specs.declared.request.BadRequest.{BadRequest}
use Rattle.ref_report.specs.declared.request.BadRequest.TheVariants as bad
use Rattle.ref_report.specs.Request.{Request, document_of, documents_of, retrievable_of, remote_of, every, list_of, optional, request_of}
use Rattle.ref_report.specs.inner.Floats.{HoldsNoFloat, HoldNoFloats, RequestHoldsNoFloat}
use Rattle.ref_definitions.proofs.Options.{some_mapped, some_bound, some_any, unwrapped}
use Rattle.ref_report.proofs.Requests.{request-read}

pub or_is_false : (a b : Bool) → (a || b) ≡ false → (a ≡ false) × (b ≡ false)
or_is_false true b h = absurd (cc)
or_is_false false b h = (refl, h)

-- ---- parts of a tree

chosen_member : (o : Ordering) (e : Data) (found : Option Data) → HoldsNoFloat e → IfSome found HoldsNoFloat → IfSome (match_ordering o found (Some e) found) HoldsNoFloat
chosen_member Less e found h more = more
chosen_member Equal e found h more = h
chosen_member Greater e found h more = more

pub member_without_floats : (k : List ℕ) (ms : Members) → members_have_float ms ≡ false → IfSome (get_member k ms) HoldsNoFloat
member_without_floats k no_members h = tt
member_without_floats k (member l e ms) h =
    let both = or_is_false (has_float e) (members_have_float ms) h in
    chosen_member (slice_cmp nat_cmp k l) e (get_member k ms) both.0 (member_without_floats k ms both.1)

pub item_without_floats : (i : ℕ) (ds : Items) → items_have_float ds ≡ false → IfSome (get_item i ds) HoldsNoFloat
item_without_floats i no_items h = tt
item_without_floats zero (item e ds) h = (or_is_false (has_float e) (items_have_float ds) h).0
item_without_floats (suc i) (item e ds) h = item_without_floats i ds (or_is_false (has_float e) (items_have_float ds) h).1

pub at_without_floats : (i : ℕ) (d : Data) → HoldsNoFloat d → IfSome (at i d) HoldsNoFloat
at_without_floats i null h = tt
at_without_floats i (boolean b) h = tt
at_without_floats i (number n) h = tt
at_without_floats i (string s) h = tt
at_without_floats i (array ds) h = item_without_floats i ds h
at_without_floats i (object ms) h = tt

pub under_without_floats : (k : List ℕ) (d : Data) → HoldsNoFloat d → IfSome (get k d) HoldsNoFloat
under_without_floats k null h = tt
under_without_floats k (boolean b) h = tt
under_without_floats k (number n) h = tt
under_without_floats k (string s) h = tt
under_without_floats k (array ds) h = tt
under_without_floats k (object ms) h = member_without_floats k ms h

-- ---- lists of documents

none_or : {A : Type 0} (P : A → Type 0) (b : Bool) (o : Option A) → IfSome o P → IfSome (cond b None o) P
none_or P true o h = tt
none_or P false o h = h

document_without_floats : (d : Data) → HoldsNoFloat d → IfSome (document_of d) (λ e. HoldsNoFloat e.1)
document_without_floats d h =
    none_or (λ e. HoldsNoFloat e.1) (is_some (at 2 d)) _
    (some_any (λ e. HoldsNoFloat e.1) (at 0 d) _ (λ u. some_any (λ e. HoldsNoFloat e.1) (as_str u) _ (λ s. some_mapped HoldsNoFloat (λ e. HoldsNoFloat e.1) (at 1 d) (λ t. (s, t)) (at_without_floats 1 d h) (λ t p. p))))

retrievable_without_floats : (d : Data) → HoldsNoFloat d → IfSome (retrievable_of d) (λ e. HoldsNoFloat e.1)
retrievable_without_floats d h =
    some_bound (λ e. HoldsNoFloat e.1) (λ e. HoldsNoFloat e.1) (document_of d) _ (document_without_floats d h)
    (λ e p. some_mapped (λ _. HoldsNoFloat e.1) (λ x. HoldsNoFloat x.1) (result_ok (uri_of e.0)) (λ uri. (uri, e.1)) (if_so (result_ok (uri_of e.0)) p) (λ uri q. q))
  where
    if_so : {A P : Type 0} (o : Option A) → P → IfSome o (λ _. P)
    if_so None p = tt
    if_so (Some x) p = p

module _ {B : Type 0} (f : Data → Option B) (P : B → Type 0) (each : (d : Data) → HoldsNoFloat d → IfSome (f d) P) where
  every_without_floats : (ds : Items) → items_have_float ds ≡ false → IfSome (every f ds) (AllByRecursion P)
  every_without_floats no_items h = tt
  every_without_floats (item d ds) h =
      let both = or_is_false (has_float d) (items_have_float ds) h in
      some_bound P (AllByRecursion P) (f d) _ (each d both.0) (λ y p. some_mapped (AllByRecursion P) (AllByRecursion P) (every f ds) (λ ys. y ∷ ys) (every_without_floats ds both.1) (λ ys q. (p, q)))

  list_without_floats : (d : Data) → HoldsNoFloat d → IfSome (list_of f d) (AllByRecursion P)
  list_without_floats null h = tt
  list_without_floats (boolean b) h = tt
  list_without_floats (number n) h = tt
  list_without_floats (string s) h = tt
  list_without_floats (array ds) h = every_without_floats ds h
  list_without_floats (object ms) h = tt

documents_without_floats : (d : Data) → HoldsNoFloat d → IfSome (documents_of d) HoldNoFloats
unfolding documents_of
documents_without_floats d h = list_without_floats document_of (λ e. HoldsNoFloat e.1) document_without_floats d h

remote_without_floats : (d : Data) → HoldsNoFloat d → IfSome (remote_of d) HoldNoFloats
unfolding remote_of
remote_without_floats d h = list_without_floats retrievable_of (λ e. HoldsNoFloat e.1) retrievable_without_floats d h

-- ---- fields

read_from : {A : Type 0} (P : A → Type 0) (why : BadRequest) (o : Option A) (x : A) → IfSome o P → ok_or o why ≡ Ok x → P x
read_from P why None x h is = absurd (cc)
read_from P why (Some y) x h is = let same : y ≡ x = cc in subst P same h

read_some : {A : Type 0} (P : A → Type 0) (why : BadRequest) (o : Option A) (x : Option A) → IfSome o P → ok_or (option_map Some o) why ≡ Ok x → IfSome x P
read_some P why None x h is = absurd (cc)
read_some P why (Some y) x h is = let same : Some y ≡ x = cc in subst (λ z. IfSome z P) same h

read_optional : {A : Type 0} (P : A → Type 0) (why : BadRequest) (f : Data → Option A) (o : Option Data) (x : Option A) → IfSome o (λ d. IfSome (f d) P) → optional why f o ≡ Ok x → IfSome x P
read_optional P why f None x h is = let same : None ≡ x = cc in subst (λ z. IfSome z P) same tt
read_optional P why f (Some d) x h is = read_some P why (f d) x h is

weaker : {P Q : Data → Type 0} (o : Option Data) → ((d : Data) → P d → Q d) → IfSome o P → IfSome o Q
weaker None next h = tt
weaker (Some d) next h = next d h

pub request_without_floats : (d : Data) (r : Request) → request_of d ≡ Ok r → RequestHoldsNoFloat r
request_without_floats d r is =
    let read = request-read d r is in
    let field = λ (k : List ℕ). under_without_floats k d read.0 in
    let documents = some_bound HoldsNoFloat HoldNoFloats (get (codes "documents") d) documents_of (field (codes "documents")) documents_without_floats in
    let remote = read_optional HoldNoFloats bad.Remote remote_of (get (codes "remote") d) r.remote (weaker _ remote_without_floats (field (codes "remote"))) read.1.remote in
    let meta = read_optional HoldNoFloats bad.Meta documents_of (get (codes "meta") d) r.meta (weaker _ documents_without_floats (field (codes "meta"))) read.1.meta in
    record {
      documents = read_from HoldNoFloats bad.Documents _ r.documents documents read.1.documents;
      remote = unwrapped HoldNoFloats r.remote [] remote tt;
      meta = unwrapped HoldNoFloats r.meta [] meta tt;
    }
