-- Places of which nothing is told.
use Rattle.std.proofs.Common.{◌≡◌, ◌∙◌, refl, sym, ap, subst, ℕ, ◌≤◌, List, [], ◌∷◌, ◌++◌, length, map, Bool, true, false, cond, ◌&&◌, ◌||◌, codes, Option, Some, None, is_some, option_and_then, slice_get, String, Global, string_bytes, Bor, Ordering, Less, Equal, Greater, nat_cmp, is_eq, ⊎_elim, arith}
use Rattle.std.specs.Prelude.{filter, bytes_eq, if◌then◌else◌}
use Rattle.std.specs.Bool.{one_answer}
use Rattle.std.specs.List.{list_all, list_any}
use Rattle.std.specs.Ordering.{match_ordering}
use Rattle.std.specs.Cmp.Lexicographic.{slice_cmp}
use Rattle.std.proofs.lemmas.Bool.{both_ways, false≢true, and_parts, and_left, or_cases, or_left, or_right, false_from_ne_true}
use Rattle.std.proofs.lemmas.Map.Text.{is_eq-slice_cmp}
use Rattle.std.proofs.lemmas.Slice.Eq.{bytes_eq-Decides}
use Rattle.serde_json.specs.Data.{Data, null, boolean, number, string, array, object, Members, no_members, member}
use Rattle.serde_json.specs.Find.{as_object, as_str, get, get_member}
use Rattle.serde_json.specs.View.{view, members_view}
use Rattle.serde_json.specs.declared.value.Value.{Value}
use Rattle.ref_draft.specs.declared.draft.Draft.{Draft}
use Rattle.ref_draft.specs.declared.draft.Draft.TheVariants.{Draft4, Draft6, Draft7, Draft201909, Draft202012, Unknown}
use Rattle.ref_draft.specs.Keywords.{is_one_of}
use Rattle.ref_draft.specs.Schema.{text_under}
use Rattle.ref_rules.specs.declared.slip.Problem.TheVariants.{OfAnotherDraft, DialectWithin, IgnoredBesideRef, UnheardBesideRef}
use Rattle.ref_rules.specs.Tables.{of_others, decides, tells}
use Rattle.ref_rules.specs.Slips.{Place, Slip, each, is_there, is_text_or_not_id, of_another, dialects_within, beside_ref, misspelled_at, slips_at}
use Rattle.ref_rules.specs.inner.Firsts.{is_first}

itself : (k : List ℕ) → bytes_eq k k ≡ true
itself k = (bytes_eq-Decides k k).1 refl

-- ---- keywords of others

none_kept : (f : List ℕ → Bool) (ks : List (List ℕ)) → ((k : List ℕ) → is_one_of k ks ≡ true → f k ≡ false) → filter f ks ≡ []
none_kept f [] none = refl
none_kept f (k ∷ ks) none =
    ap (λ b. cond b (k ∷ filter f ks) (filter f ks)) (none k (or_left (bytes_eq k k) (is_one_of k ks) (itself k)))
    ∙ none_kept f ks (λ l is. none l (or_right (bytes_eq l k) (is_one_of l ks) is))

none_of_others : (p : Place) → ((k : List ℕ) → is_one_of k (of_others p.draft) ≡ true → get k p.value ≡ None) → of_another p ≡ []
none_of_others p absent =
    none_kept (λ k. is_there p.value k && is_text_or_not_id p.value k) (of_others p.draft)
    (λ k is. and_left (is_there p.value k) (is_text_or_not_id p.value k) (ap is_some (absent k is)))

-- ---- what is told

joined : (n : ℕ) (d : Draft) (others within ignored unheard : List (List ℕ)) (last : List Slip) → others ≡ [] → within ≡ [] → ignored ≡ [] → unheard ≡ [] → last ≡ []
    → each n (OfAnotherDraft d) others ++ (each n DialectWithin within ++ (each n IgnoredBesideRef ignored ++ (each n UnheardBesideRef unheard ++ last))) ≡ []
joined n d others within ignored unheard last a b c e f =
    ap (λ ks. each n (OfAnotherDraft d) ks ++ (each n DialectWithin within ++ (each n IgnoredBesideRef ignored ++ (each n UnheardBesideRef unheard ++ last)))) a
    ∙ ap (λ ks. each n DialectWithin ks ++ (each n IgnoredBesideRef ignored ++ (each n UnheardBesideRef unheard ++ last))) b
    ∙ ap (λ ks. each n IgnoredBesideRef ks ++ (each n UnheardBesideRef unheard ++ last)) c
    ∙ ap (λ ks. each n UnheardBesideRef ks ++ last) e
    ∙ f

pub none_told : (n : ℕ) (p : Place) → ((k : List ℕ) → is_one_of k (of_others p.draft) ≡ true → get k p.value ≡ None) → dialects_within p ≡ [] → misspelled_at n p ≡ []
    → beside_ref p (decides p.draft) ≡ [] → beside_ref p (tells p.draft) ≡ [] → slips_at (n, p) ≡ []
none_told n p absent within spelled ignored unheard =
    joined n p.draft (of_another p) (dialects_within p) (beside_ref p (decides p.draft)) (beside_ref p (tells p.draft)) (misspelled_at n p)
    (none_of_others p absent) within ignored unheard spelled

-- ---- members

-- after a key that is none of these, the same is found under each of them
differs : (k l : List ℕ) (ks : List (List ℕ)) → is_one_of k ks ≡ true → is_one_of l ks ≡ false → k ≡ l → ⊥
differs k l ks one none same = both_ways (is_one_of l ks) none (ap (λ m. is_one_of m ks) (sym same) ∙ one)

past_step : (k l : List ℕ) (e : Data) (ms : Members) (o : Ordering) → slice_cmp nat_cmp k l ≡ o → (k ≡ l → ⊥) → match_ordering o (get_member k ms) (Some e) (get_member k ms) ≡ get_member k ms
past_step k l e ms Less is other = refl
past_step k l e ms Equal is other = absurd (other ((bytes_eq-Decides k l).0 (sym (is_eq-slice_cmp k l) ∙ ap is_eq is)))
past_step k l e ms Greater is other = refl

pub found_past : (k l : List ℕ) (e : Data) (ms : Members) (ks : List (List ℕ)) → is_one_of k ks ≡ true → is_one_of l ks ≡ false → get_member k ms ≡ get_member k (member l e ms)
found_past k l e ms ks one none = sym (past_step k l e ms (slice_cmp nat_cmp k l) refl (differs k l ks one none))

pub object_from : (t : Data) (ms : Members) → Some ms ≡ as_object t → t ≡ object ms
object_from null ms e = absurd (cc)
object_from (boolean b) ms e = absurd (cc)
object_from (number x) ms e = absurd (cc)
object_from (string s) ms e = absurd (cc)
object_from (array ds) ms e = absurd (cc)
object_from (object ns) ms e = let same : ms ≡ ns = cc in ap object (sym same)

pub none_in_others : (t : Data) (k : List ℕ) → None ≡ as_object t → get k t ≡ None
none_in_others null k e = refl
none_in_others (boolean b) k e = refl
none_in_others (number x) k e = refl
none_in_others (string s) k e = refl
none_in_others (array ds) k e = refl
none_in_others (object ns) k e = absurd (cc)

-- ---- beside a `$ref`

either : (b : Bool) (ks : List (List ℕ)) → ks ≡ [] → (if b then ks else []) ≡ []
either true ks e = e
either false ks e = refl

-- a place without a `$ref`
pub without_ref : (p : Place) (ks : List (List ℕ)) → is_some (text_under (codes "$ref") p.value) ≡ false → beside_ref p ks ≡ []
without_ref p ks none = ap (λ b. if b then filter (is_there p.value) ks else []) none

-- with nothing to be ignored
pub without_keywords : (p : Place) (ks : List (List ℕ)) → ks ≡ [] → beside_ref p ks ≡ []
without_keywords p ks none = ap (λ l. beside_ref p l) none ∙ either (is_some (text_under (codes "$ref") p.value)) [] refl

-- with a `$ref` alone
abbrev alone : Data → Data
alone v = object (member (codes "$ref") v no_members)

alone_decides : (d : Draft) (v : Data) → filter (is_there (alone v)) (decides d) ≡ []
alone_decides Draft4 v = refl
alone_decides Draft6 v = refl
alone_decides Draft7 v = refl
alone_decides Draft201909 v = refl
alone_decides Draft202012 v = refl
alone_decides Unknown v = refl

alone_tells : (d : Draft) (v : Data) → filter (is_there (alone v)) (tells d) ≡ []
alone_tells Draft4 v = refl
alone_tells Draft6 v = refl
alone_tells Draft7 v = refl
alone_tells Draft201909 v = refl
alone_tells Draft202012 v = refl
alone_tells Unknown v = refl

-- what is beside the `$ref` of a value
abbrev beside : Data → List (List ℕ) → List (List ℕ)
beside t ks = if is_some (text_under (codes "$ref") t) then filter (is_there t) ks else []

by_key : (k : List ℕ) (v : Data) (ks : List (List ℕ)) (o : Ordering) → slice_cmp nat_cmp (codes "$ref") k ≡ o → filter (is_there (alone v)) ks ≡ [] → beside (object (member k v no_members)) ks ≡ []
by_key k v ks Less is none =
    ap (λ o. if is_some (option_and_then as_str (match_ordering o None (Some v) None)) then filter (is_there (object (member k v no_members))) ks else []) is
by_key k v ks Equal is none =
    let same : codes "$ref" ≡ k = (bytes_eq-Decides (codes "$ref") k).0 (sym (is_eq-slice_cmp (codes "$ref") k) ∙ ap is_eq is) in
    subst (λ l. beside (object (member l v no_members)) ks ≡ []) same (either (is_some (text_under (codes "$ref") (alone v))) (filter (is_there (alone v)) ks) none)
by_key k v ks Greater is none =
    ap (λ o. if is_some (option_and_then as_str (match_ordering o None (Some v) None)) then filter (is_there (object (member k v no_members))) ks else []) is

-- with one member at most
few : (es : List (String Global × Value)) (ks : List (List ℕ)) → length es ≤ 1 → ((v : Data) → filter (is_there (alone v)) ks ≡ []) → beside (object (members_view es)) ks ≡ []
few [] ks least none = refl
few (e ∷ []) ks least none = by_key (string_bytes e.0) (view e.1) ks (slice_cmp nat_cmp (codes "$ref") (string_bytes e.0)) refl (none (view e.1))
few (e ∷ f ∷ es) ks least none = absurd (omega (arith, least))

pub few_decide : (p : Place) (es : List (String Global × Value)) → p.value ≡ object (members_view es) → length es ≤ 1 → beside_ref p (decides p.draft) ≡ []
few_decide p es is least = ap (λ t. beside t (decides p.draft)) is ∙ few es (decides p.draft) least (alone_decides p.draft)

pub few_tell : (p : Place) (es : List (String Global × Value)) → p.value ≡ object (members_view es) → length es ≤ 1 → beside_ref p (tells p.draft) ≡ []
few_tell p es is least = ap (λ t. beside t (tells p.draft)) is ∙ few es (tells p.draft) least (alone_tells p.draft)

-- ---- the first bytes of keywords

-- whether a text begins so
abbrev begins : Option ℕ → Bool
begins None = false
begins (Some first) = is_first first

among : (k : List ℕ) (ks : List (List ℕ)) → list_all (λ l. begins (slice_get l 0)) ks ≡ true → is_one_of k ks ≡ true → begins (slice_get k 0) ≡ true
among k [] all is = absurd (false≢true is)
among k (l ∷ ks) all is =
    let parts = and_parts (begins (slice_get l 0)) (list_all (λ l. begins (slice_get l 0)) ks) all in
    ⊎_elim
    (λ here. ap (λ m. begins (slice_get m 0)) ((bytes_eq-Decides k l).0 here) ∙ parts.0)
    (λ later. among k ks parts.1 later)
    (or_cases (bytes_eq k l) (is_one_of k ks) is)

each_begins : (d : Draft) → list_all (λ l. begins (slice_get l 0)) (of_others d) ≡ true
each_begins Draft4 = refl
each_begins Draft6 = refl
each_begins Draft7 = refl
each_begins Draft201909 = refl
each_begins Draft202012 = refl
each_begins Unknown = refl

-- a text that begins in another way is none of them
pub other_first : (d : Draft) (k : List ℕ) → begins (slice_get k 0) ≡ false → is_one_of k (of_others d) ≡ false
other_first d k lacks = false_from_ne_true (is_one_of k (of_others d)) (λ is. both_ways (begins (slice_get k 0)) lacks (among k (of_others d) (each_begins d) is))

-- ---- the URIs of meta-schemas

abbrev pub uris : List (List ℕ)
uris =
    map codes
    ("http://json-schema.org/draft-04/schema#" ∷ "http://json-schema.org/draft-04/schema" ∷ "http://json-schema.org/draft-06/schema#"
    ∷ "http://json-schema.org/draft-06/schema" ∷ "http://json-schema.org/draft-07/schema#" ∷ "http://json-schema.org/draft-07/schema"
    ∷ "https://json-schema.org/draft/2019-09/schema" ∷ "https://json-schema.org/draft/2020-12/schema" ∷ [])

-- ---- texts among others

same_bytes : (a b : List ℕ) → bytes_eq a b ≡ bytes_eq b a
same_bytes a b =
    let other = bytes_eq-Decides b a in
    one_answer (bytes_eq a b) (bytes_eq b a) (bytes_eq-Decides a b) (λ h. sym (other.0 h), λ e. other.1 (sym e))

pub one_of_these : (k : List ℕ) (xs : List (Bor (List ℕ))) → list_any (λ (y : Bor (List ℕ)). bytes_eq y.now k) xs ≡ is_one_of k (map (λ (y : Bor (List ℕ)). y.now) xs)
one_of_these k [] = refl
one_of_these k (x ∷ xs) =
    ap (λ b. b || list_any (λ (y : Bor (List ℕ)). bytes_eq y.now k) xs) (same_bytes x.now k) ∙ ap (λ b. bytes_eq k x.now || b) (one_of_these k xs)
