-- Where pointers lead in a bundle.
--
-- 1. The keys that are added have a scheme, so none of them is a keyword (`no_keywords`).
-- 2. From the root of an embedded document a pointer to nothing that is added goes the way that it went (`embedded_pointed`).
-- 3. From the root of the bundle, to definitions that were there: they have more members, and the same identifier (`in_definitions`).
-- 4. To definitions that weren't there: the pointer led nowhere, and leads to exactly what is added (`in_new`).
-- 5. Any other first token leads where it led; so for any pointer from the root (`root_pointed`).
use Rattle.std.proofs.Common.{◌≡◌, ℕ, Bool, true, false, not, cond, ◌&&◌, ◌||◌, List, [], ◌∷◌, ◌++◌, map, codes, slice_get, Option, Some, None, is_some, option_map, option_and_then, Result, Ok, Err, ok_or, bytes_eq, ◌⊎◌, inl, inr, ⊎_elim, refl, sym, ap, subst, ◌∙◌, true≢false, arith}
use Rattle.std.specs.List.{AllByRecursion, Contains}
use Rattle.std.specs.Option.{option_map_or}
use Rattle.std.specs.Str.{is_utf8}
use Rattle.std.proofs.lemmas.Slice.Eq.{bytes_eq-Decides}
use Rattle.std.proofs.lemmas.List.Elements.{Contains-append_right}
use Rattle.percent_encoding.specs.Percent.{percent_decode}
use Rattle.serde_json.specs.Data.{Data, null, boolean, number, string, array, object, Members, no_members, put}
use Rattle.serde_json.specs.Find.{get, get_member, as_object, as_str}
use Rattle.serde_json.proofs.Views.{get_member-put_other}
use Rattle.ref_paths.specs.Path.{Part, Key}
use Rattle.ref_parts.specs.Pointer.{unescape, tokens}
use Rattle.ref_draft.specs.declared.draft.Draft.{Draft}
use Rattle.ref_draft.specs.declared.draft.Draft.TheVariants.{Draft4, Draft6, Draft7, Draft201909, Draft202012, Unknown}
use Rattle.ref_draft.specs.Keywords.{id_keyword}
use Rattle.ref_draft.specs.Schema.{identifier}
use Rattle.ref_draft.specs.Children.{is_object}
use Rattle.ref_draft.specs.ScanSteps.{scan}
use Rattle.ref_uri.specs.Components.{scheme}
use Rattle.ref_uri.specs.Targets.{Refusal, uri_against, resolve_refusal}
use Rattle.ref_uri.proofs.Meanings.{against_without_scheme}
use Rattle.ref_uri.proofs.OnLiterals.{ref_uri_on_literals}
use Rattle.ref_definitions.specs.Results.{◌>>=◌}
use Rattle.ref_definitions.specs.World.{Document, Layer}
use Rattle.ref_definitions.specs.Fault.{Fault, PointerToNowhere, InvalidPercentEncoding, as_invalid_uri}
use Rattle.ref_definitions.specs.Places.{root, base_within}
use Rattle.ref_definitions.specs.Bases.{Along, changed_base, along_part}
use Rattle.ref_definitions.specs.Pointers.{walked_along, pointed_value}
use Rattle.ref_definitions.specs.Lookup.{Resolver, Found, pointer_found}
use Rattle.ref_bundle.specs.Embedding.{base_uri, added_schema, embedded_tree, has_other_identifier, is_added_under}
use Rattle.ref_bundle.specs.Bundle.{Bundle, pointer_in, key_at, second_key, definitions_keyword, definitions_of, members_or_none, with_all, member_of, tree_with, uris_of, bundle_of, to_embed}
use Rattle.ref_bundle_laws.specs.Kept.{the_same, an_embedded, the_root, IsAnswerNow, IsPointerOf, definitions_now, AreDefinitionsNow, more_than, new_ones}
use Rattle.ref_bundle_laws.proofs.LawEmbedded.{given_back}
use Rattle.ref_bundle_laws.proofs.LawPut.{apart, IsEmbeddable, get_embedded, id_embedded, object_embedded, schema_text_same, get_with}
use Rattle.ref_bundle_laws.proofs.LawPlaces.{HasRoom, HasRoomFor}
use Rattle.ref_bundle_laws.proofs.LawTop.{get_top, object_top, identifier_alike}
use Rattle.ref_bundle_laws.proofs.LawWalk.{object_step, walk_alike, walk_through, walk_there, goes_on, along_alike}
use Rattle.ref_bundle.specs.Needed.{Further}

-- ---- answers of pointers

abbrev pub AnswerOf : Resolver → Draft → Result (Data × Along) Fault → Result Found Fault
AnswerOf r draft to = to >>= λ x. Ok (pointer_found r draft x)

pub same_answer : (layer : Layer) (fs : Further) (n : ℕ) (top : Document) (bundle : Bundle) (a : Result Found Fault) → IsAnswerNow layer fs n top bundle a a
same_answer layer fs n top bundle (Ok found) = (the_same refl, refl, refl)
same_answer layer fs n top bundle (Err fault) = refl

pub equal_answer : (layer : Layer) (fs : Further) (n : ℕ) (top : Document) (bundle : Bundle) (a b : Result Found Fault) → a ≡ b → IsAnswerNow layer fs n top bundle a b
equal_answer layer fs n top bundle a b is = subst (IsAnswerNow layer fs n top bundle a) is (same_answer layer fs n top bundle a)

-- a key of a list, or none of them
pub which : (key : List ℕ) (es : List (ℕ × Document)) → ((e : ℕ × Document) × Contains es e × (key ≡ base_uri e.1)) ⊎ AllByRecursion (λ e. ¬ (key ≡ base_uri e.1)) es
which key [] = inr tt
which key (e ∷ es) = by_first (bytes_eq key (base_uri e.1)) refl (which key es)
  where
    by_first : (b : Bool) → bytes_eq key (base_uri e.1) ≡ b → ((f : ℕ × Document) × Contains es f × (key ≡ base_uri f.1)) ⊎ AllByRecursion (λ f. ¬ (key ≡ base_uri f.1)) es
        → ((f : ℕ × Document) × Contains (e ∷ es) f × (key ≡ base_uri f.1)) ⊎ AllByRecursion (λ f. ¬ (key ≡ base_uri f.1)) (e ∷ es)
    by_first true is later = inl (e, (0, omega arith, refl), (bytes_eq-Decides key (base_uri e.1)).0 is)
    by_first false is (inl there) = inl (there.0, Contains-append_right (e ∷ []) es there.0 there.1, there.2)
    by_first false is (inr none) = inr (apart key (base_uri e.1) is, none)

pub get_with_all : (draft : Draft) (key : List ℕ) (es : List (ℕ × Document)) (ms : Members) → AllByRecursion (λ e. ¬ (key ≡ base_uri e.1)) es → get_member key (with_all (map (member_of draft) es) ms) ≡ get_member key ms
get_with_all draft key [] ms other = refl
get_with_all draft key (e ∷ es) ms other =
    get_with_all draft key es (put (base_uri e.1) (embedded_tree draft e.1) ms) other.1 ∙ get_member-put_other key (base_uri e.1) (embedded_tree draft e.1) ms other.0

-- ---- a URI of an embedded document has a scheme

has_scheme : (uri : List ℕ) (text : List ℕ) (b : Bool) → is_some (scheme uri) ≡ b → uri_against uri text ≡ Ok uri → is_some (scheme uri) ≡ true
has_scheme uri text true is given = is
has_scheme uri text false is given = absurd (let e : Err (resolve_refusal text uri) ≡ Ok uri = sym (against_without_scheme uri text is) ∙ given in cc)

no_ref_scheme : is_some (scheme (codes "$ref")) ≡ false
unfolding ref_uri_on_literals
no_ref_scheme = refl

no_id_scheme : is_some (scheme (codes "id")) ≡ false
unfolding ref_uri_on_literals
no_id_scheme = refl

no_dollar_id_scheme : is_some (scheme (codes "$id")) ≡ false
unfolding ref_uri_on_literals
no_dollar_id_scheme = refl

no_keyword : (key : List ℕ) (top d : Document) → IsEmbeddable top d → is_some (scheme key) ≡ false → ¬ (key ≡ base_uri d)
no_keyword key top d able none is =
    true≢false (sym (has_scheme (base_uri d) _ (is_some (scheme (base_uri d))) refl (given_back (base_uri d) (base_uri d) able.kept_itself)) ∙ ap (λ u. is_some (scheme u)) (sym is) ∙ none)

pub no_keywords : (key : List ℕ) (top : Document) (es : List (ℕ × Document)) → AllByRecursion (λ e. IsEmbeddable top e.1) es → is_some (scheme key) ≡ false → AllByRecursion (λ e. ¬ (key ≡ base_uri e.1)) es
no_keywords key top [] able none = tt
no_keywords key top (e ∷ es) able none = (no_keyword key top e.1 able.0 none, no_keywords key top es able.1 none)

id_scheme : (draft : Draft) → is_some (scheme (id_keyword draft)) ≡ false
id_scheme Draft4 = no_id_scheme
id_scheme Draft6 = no_dollar_id_scheme
id_scheme Draft7 = no_dollar_id_scheme
id_scheme Draft201909 = no_dollar_id_scheme
id_scheme Draft202012 = no_dollar_id_scheme
id_scheme Unknown = no_dollar_id_scheme

-- ---- from an embedded document's root

-- a member of which the bundle has the same text
same_text : (o : Option Data) (uri : List ℕ) → not (option_map_or (λ text. bytes_eq text uri) (option_and_then as_str o) false) ≡ false → o ≡ Some (string uri)
same_text None uri is = absurd (true≢false is)
same_text (Some null) uri is = absurd (true≢false is)
same_text (Some (boolean b)) uri is = absurd (true≢false is)
same_text (Some (number n)) uri is = absurd (true≢false is)
same_text (Some (array ds)) uri is = absurd (true≢false is)
same_text (Some (object ms)) uri is = absurd (true≢false is)
same_text (Some (string own)) uri is = by_test (bytes_eq own uri) refl is
  where
    by_test : (b : Bool) → bytes_eq own uri ≡ b → not b ≡ false → Some (string own) ≡ Some (string uri)
    by_test true same other = ap (λ t. Some (string t)) ((bytes_eq-Decides own uri).0 same)
    by_test false same other = absurd (true≢false other)

not_some : {X : Type 0} (o : Option X) → is_some o ≡ false → o ≡ None
not_some None is = refl
not_some (Some x) is = absurd (true≢false is)

-- a key under which nothing is added
embedded_member : (top : Document) (e : ℕ × Document) → IsEmbeddable top e.1 → (key : List ℕ) (b c : Bool) → bytes_eq key (id_keyword e.1.draft) ≡ b → bytes_eq key (codes "$schema") ≡ c
    → ((b && has_other_identifier e.1) || (c && is_some (added_schema top.draft e.1))) ≡ false → get key (embedded_tree top.draft e.1) ≡ get key e.1.tree
embedded_member top e able key true c own also plain =
    let keyword : key ≡ id_keyword e.1.draft = (bytes_eq-Decides key (id_keyword e.1.draft)).0 own in
    subst (λ k. get k (embedded_tree top.draft e.1) ≡ get k e.1.tree) (sym keyword)
    (id_embedded top.draft e.1 able.object ∙ sym (same_text (get (id_keyword e.1.draft) e.1.tree) (base_uri e.1) (neither (has_other_identifier e.1) (c && is_some (added_schema top.draft e.1)) plain)))
  where
    neither : (a b : Bool) → (a || b) ≡ false → a ≡ false
    neither true b is = absurd (true≢false is)
    neither false b is = refl
embedded_member top e able key false true own also plain =
    subst (λ k. get k (embedded_tree top.draft e.1) ≡ get k e.1.tree) (sym ((bytes_eq-Decides key (codes "$schema")).0 also))
    (schema_text_same top.draft e.1 (not_some (added_schema top.draft e.1) plain))
embedded_member top e able key false false own also plain =
    get_embedded top.draft e.1 key (apart key (id_keyword e.1.draft) own) (apart key (codes "$schema") also)

embedded_tokens : (layer : Layer) (fs : Further) (n : ℕ) (top : Document) (bundle : Bundle) (e : ℕ × Document) → Contains (to_embed layer fs n) e → IsEmbeddable top e.1 → (r : Resolver) (pointer : List ℕ) (along : Along) (list : List (List ℕ))
    → along.base ≡ base_uri e.1 → ((key : List ℕ) → option_map unescape (slice_get list 0) ≡ Some key → is_added_under top.draft e.1 key ≡ false)
    → IsAnswerNow layer fs n top bundle (AnswerOf r e.1.draft (walked_along e.1.draft pointer along (embedded_tree top.draft e.1) list)) (AnswerOf r e.1.draft (walked_along e.1.draft pointer along e.1.tree list))
embedded_tokens layer fs n top bundle e there able r pointer along [] own plain = (an_embedded e there own refl refl, refl, refl)
embedded_tokens layer fs n top bundle e there able r pointer along (token ∷ more) own plain =
    equal_answer layer fs n top bundle _ _
    (ap (AnswerOf r e.1.draft) (walk_alike e.1.draft pointer along (embedded_tree top.draft e.1) e.1.tree token more (object_embedded top.draft e.1 ∙ able.object) able.object
    (embedded_member top e able (unescape token) (bytes_eq (unescape token) (id_keyword e.1.draft)) (bytes_eq (unescape token) (codes "$schema")) refl refl (plain (unescape token) refl))))

embedded_decoded : (layer : Layer) (fs : Further) (n : ℕ) (top : Document) (bundle : Bundle) (e : ℕ × Document) → Contains (to_embed layer fs n) e → IsEmbeddable top e.1 → (r : Resolver) (pointer base text : List ℕ) (b : Bool)
    → base ≡ base_uri e.1 → ((key : List ℕ) → option_and_then (key_at 0) (cond b (Some (percent_decode text)) None) ≡ Some key → is_added_under top.draft e.1 key ≡ false)
    → IsAnswerNow layer fs n top bundle (AnswerOf r e.1.draft (cond b (walked_along e.1.draft pointer (record { base = base; since = [] }) (embedded_tree top.draft e.1) (tokens (percent_decode text))) (Err (InvalidPercentEncoding pointer))))
    (AnswerOf r e.1.draft (cond b (walked_along e.1.draft pointer (record { base = base; since = [] }) e.1.tree (tokens (percent_decode text))) (Err (InvalidPercentEncoding pointer))))
embedded_decoded layer fs n top bundle e there able r pointer base text true own plain =
    embedded_tokens layer fs n top bundle e there able r pointer (record { base = base; since = [] }) (tokens (percent_decode text)) own plain
embedded_decoded layer fs n top bundle e there able r pointer base text false own plain = refl

-- a pointer to nothing that is added is percent-decoded, and goes the way that it went
pub embedded_pointed : (layer : Layer) (fs : Further) (n : ℕ) (top : Document) (bundle : Bundle) (e : ℕ × Document) → Contains (to_embed layer fs n) e → IsEmbeddable top e.1 → (r : Resolver) (pointer base text : List ℕ)
    → base ≡ base_uri e.1 → ((key : List ℕ) → option_and_then (key_at 0) (pointer_in (47 ∷ text)) ≡ Some key → is_added_under top.draft e.1 key ≡ false)
    → IsAnswerNow layer fs n top bundle (AnswerOf r e.1.draft (pointed_value e.1.draft pointer base (embedded_tree top.draft e.1) text)) (AnswerOf r e.1.draft (pointed_value e.1.draft pointer base e.1.tree text))
embedded_pointed layer fs n top bundle e there able r pointer base text own plain =
    embedded_decoded layer fs n top bundle e there able r pointer base text (is_utf8 (percent_decode text)) own plain

-- ---- from the root

-- a pointer of which no embedded document's key is the second, after the keyword of definitions
abbrev pub IsApart : Layer → Further → ℕ → Document → List ℕ → Type 0
IsApart layer fs n top fragment =
    (e : ℕ × Document) → Contains (to_embed layer fs n) e → (text : List ℕ) → pointer_in fragment ≡ Some text → ¬ (second_key (definitions_keyword top.draft) text ≡ Some (base_uri e.1))

-- a pointer from the root to its definitions
pub record LeadsToDefinitions (layer : Layer) (fs : Further) (n : ℕ) (top : Document) (r : Resolver) (fragment : List ℕ) (now before : Result Found Fault) : Type 0 where
  pub pointer : IsPointerOf fragment (definitions_keyword top.draft ∷ [])
  pub answers : AreDefinitionsNow layer fs n top r fragment now before

abbrev pub IsRootAnswer : Layer → Further → ℕ → Document → Bundle → Resolver → List ℕ → Result Found Fault → Result Found Fault → Type 0
IsRootAnswer layer fs n top bundle r fragment now before = IsAnswerNow layer fs n top bundle now before ⊎ LeadsToDefinitions layer fs n top r fragment now before

-- the second key of a text with these tokens
second_is : (keyword text token second : List ℕ) (more : List (List ℕ)) → tokens text ≡ token ∷ second ∷ more → bytes_eq (unescape token) keyword ≡ true → second_key keyword text ≡ Some (unescape second)
second_is keyword text token second more first own =
    ap (λ l. cond (option_map_or (λ key. bytes_eq key keyword) (option_map unescape (slice_get l 0)) false) (option_map unescape (slice_get l 1)) None) first
    ∙ ap (λ b. cond b (Some (unescape second)) None) own

-- a text of one token
one_token : (keyword text token : List ℕ) → is_utf8 (percent_decode text) ≡ true → tokens (percent_decode text) ≡ token ∷ [] → unescape token ≡ keyword → IsPointerOf (47 ∷ text) (keyword ∷ [])
one_token keyword text token utf8 first own = record {
  text = percent_decode text;
  is = ap (λ b. cond b (Some (percent_decode text)) None) utf8;
  all = ap (map unescape) first ∙ ap (λ key. key ∷ []) own;
}

-- where the first key is the keyword of definitions, the second is none of the embedded documents'
none_second : (layer : Layer) (fs : Further) (n : ℕ) (top : Document) (es : List (ℕ × Document)) → to_embed layer fs n ≡ es → (text token second : List ℕ) (more : List (List ℕ)) → is_utf8 (percent_decode text) ≡ true → tokens (percent_decode text) ≡ token ∷ second ∷ more
    → bytes_eq (unescape token) (definitions_keyword top.draft) ≡ true → IsApart layer fs n top (47 ∷ text) → AllByRecursion (λ e. ¬ (unescape second ≡ base_uri e.1)) es
none_second layer fs n top es are text token second more utf8 first own apart_ =
    ⊎_elim
    (λ added. absurd (apart_ added.0 (subst (λ l. Contains l added.0) (sym are) added.1) (percent_decode text) (ap (λ b. cond b (Some (percent_decode text)) None) utf8)
    (second_is (definitions_keyword top.draft) (percent_decode text) token second more first own ∙ ap (λ k. Some k) added.2)))
    (λ other. other)
    (which (unescape second) es)

-- what the root has under the keyword of definitions
more_there : (top : Document) (e : ℕ × Document) (es : List (ℕ × Document)) → is_object top.tree ≡ true → get (definitions_keyword top.draft) (tree_with top (e ∷ es)) ≡ Some (object (with_all (map (member_of top.draft) (e ∷ es)) (definitions_of top)))
more_there top e es is = get_with (definitions_keyword top.draft) (object (with_all (map (member_of top.draft) (e ∷ es)) (definitions_of top))) top.tree is

-- the definitions with more members have the same identifier
same_identifier : (top : Document) (es : List (ℕ × Document)) (few : Members) → AllByRecursion (λ e. IsEmbeddable top e.1) es
    → identifier top.draft (object (with_all (map (member_of top.draft) es) few)) ≡ identifier top.draft (object few)
same_identifier top es few able =
    identifier_alike top.draft (object (with_all (map (member_of top.draft) es) few)) (object few)
    (get_with_all top.draft (id_keyword top.draft) es few (no_keywords (id_keyword top.draft) top es able (id_scheme top.draft)))
    (get_with_all top.draft (codes "$ref") es few (no_keywords (codes "$ref") top es able no_ref_scheme))

few_of : (top : Document) (few : Members) → get (definitions_keyword top.draft) top.tree ≡ Some (object few) → definitions_of top ≡ few
few_of top few is = ap (λ o. members_or_none (option_and_then as_object o)) is

none_of_them : (top : Document) → get (definitions_keyword top.draft) top.tree ≡ None → definitions_of top ≡ no_members
none_of_them top is = ap (λ o. members_or_none (option_and_then as_object o)) is

-- all of the definitions, where these documents are embedded
all_are : (layer : Layer) (fs : Further) (n : ℕ) (top : Document) (es : List (ℕ × Document)) → to_embed layer fs n ≡ es → object (with_all (map (member_of top.draft) es) (definitions_of top)) ≡ definitions_now layer fs n top
all_are layer fs n top es are = ap (λ l. object (with_all (map (member_of top.draft) l) (definitions_of top))) (sym are)

-- ---- to definitions that were there

with_more : (layer : Layer) (fs : Further) (n : ℕ) (top : Document) (bundle : Bundle) (r : Resolver) (fragment : List ℕ) → IsPointerOf fragment (definitions_keyword top.draft ∷ []) → (few : Members) → get (definitions_keyword top.draft) top.tree ≡ Some (object few)
    → (a b : Result Along Fault) (all : Data) → a ≡ b → all ≡ definitions_now layer fs n top
    → IsRootAnswer layer fs n top bundle r fragment (AnswerOf r top.draft (a >>= λ next. Ok (all, next))) (AnswerOf r top.draft (b >>= λ next. Ok (object few, next)))
with_more layer fs n top bundle r fragment pointer few had a b all same are =
    subst (λ x. IsRootAnswer layer fs n top bundle r fragment (AnswerOf r top.draft (x >>= λ next. Ok (all, next))) (AnswerOf r top.draft (b >>= λ next. Ok (object few, next)))) (sym same) (by_answer b)
  where
    by_answer : (x : Result Along Fault) → IsRootAnswer layer fs n top bundle r fragment (AnswerOf r top.draft (x >>= λ next. Ok (all, next))) (AnswerOf r top.draft (x >>= λ next. Ok (object few, next)))
    by_answer (Ok next) =
        inr (record { pointer = pointer; answers = more_than (pointer_found r top.draft (object few, next)) had (ap (λ v. Ok (pointer_found r top.draft (v, next))) are) refl })
    by_answer (Err fault) = inl refl

-- a pointer whose first token is the keyword of definitions
in_definitions : (layer : Layer) (fs : Further) (n : ℕ) (top : Document) (e : ℕ × Document) (es : List (ℕ × Document)) → to_embed layer fs n ≡ e ∷ es → is_object top.tree ≡ true → AllByRecursion (λ x. IsEmbeddable top x.1) (e ∷ es) → (few : Members) → get (definitions_keyword top.draft) top.tree ≡ Some (object few)
    → (r : Resolver) (along : Along) (text token : List ℕ) (more : List (List ℕ)) → is_utf8 (percent_decode text) ≡ true → tokens (percent_decode text) ≡ token ∷ more → bytes_eq (unescape token) (definitions_keyword top.draft) ≡ true → IsApart layer fs n top (47 ∷ text)
    → IsRootAnswer layer fs n top (bundle_of top (e ∷ es)) r (47 ∷ text) (AnswerOf r top.draft (walked_along top.draft (47 ∷ text) along (tree_with top (e ∷ es)) (token ∷ more))) (AnswerOf r top.draft (walked_along top.draft (47 ∷ text) along top.tree (token ∷ more)))
in_definitions layer fs n top e es are is able few had r along text token [] utf8 first same apart_ =
    let pointer = 47 ∷ text in
    let own : unescape token ≡ definitions_keyword top.draft = (bytes_eq-Decides (unescape token) (definitions_keyword top.draft)).0 same in
    let all = object (with_all (map (member_of top.draft) (e ∷ es)) (definitions_of top)) in
    let at_now : get (unescape token) (tree_with top (e ∷ es)) ≡ Some all = ap (λ k. get k (tree_with top (e ∷ es))) own ∙ more_there top e es is in
    let at_before : get (unescape token) top.tree ≡ Some (object few) = ap (λ k. get k top.tree) own ∙ had in
    let ids : identifier top.draft all ≡ identifier top.draft (object few) =
    same_identifier top (e ∷ es) (definitions_of top) able ∙ ap (λ ms. identifier top.draft (object ms)) (few_of top few had) in
    subst (λ x. IsRootAnswer layer fs n top (bundle_of top (e ∷ es)) r pointer (AnswerOf r top.draft x) (AnswerOf r top.draft (walked_along top.draft pointer along top.tree (token ∷ [])))) (sym (walk_there top.draft pointer along (tree_with top (e ∷ es)) token [] all (object_top top (e ∷ es) ∙ is) at_now))
    (subst (λ x. IsRootAnswer layer fs n top (bundle_of top (e ∷ es)) r pointer (AnswerOf r top.draft (goes_on top.draft pointer along (Key (unescape token)) [] all)) (AnswerOf r top.draft x)) (sym (walk_there top.draft pointer along top.tree token [] (object few) is at_before))
    (with_more layer fs n top (bundle_of top (e ∷ es)) r pointer (one_token (definitions_keyword top.draft) text token utf8 first own) few had
    (as_invalid_uri (along_part top.draft along (Key (unescape token)) all)) (as_invalid_uri (along_part top.draft along (Key (unescape token)) (object few))) all
    (ap as_invalid_uri (along_alike top.draft along (Key (unescape token)) all (object few) refl ids)) (all_are layer fs n top (e ∷ es) are)))
in_definitions layer fs n top e es are is able few had r along text token (second ∷ more) utf8 first same apart_ =
    let pointer = 47 ∷ text in
    let own : unescape token ≡ definitions_keyword top.draft = (bytes_eq-Decides (unescape token) (definitions_keyword top.draft)).0 same in
    let all = with_all (map (member_of top.draft) (e ∷ es)) (definitions_of top) in
    let at_now : get (unescape token) (tree_with top (e ∷ es)) ≡ Some (object all) = ap (λ k. get k (tree_with top (e ∷ es))) own ∙ more_there top e es is in
    let at_before : get (unescape token) top.tree ≡ Some (object few) = ap (λ k. get k top.tree) own ∙ had in
    let ids : identifier top.draft (object all) ≡ identifier top.draft (object few) =
    same_identifier top (e ∷ es) (definitions_of top) able ∙ ap (λ ms. identifier top.draft (object ms)) (few_of top few had) in
    let other = none_second layer fs n top (e ∷ es) are text token second more utf8 first same apart_ in
    inl (equal_answer layer fs n top (bundle_of top (e ∷ es)) _ _
    (ap (AnswerOf r top.draft)
    (walk_through top.draft pointer along (tree_with top (e ∷ es)) top.tree token second more (object all) (object few) (object_top top (e ∷ es) ∙ is) is at_now at_before refl refl ids
    (get_with_all top.draft (unescape second) (e ∷ es) (definitions_of top) other ∙ ap (get_member (unescape second)) (few_of top few had)))))

-- ---- to definitions that weren't there

-- the base stays at a value without an identifier
record StaysThere (draft : Draft) (along : Along) (part : Part) (value : Data) : Type 0 where
  next : Along
  is : along_part draft along part value ≡ Ok next
  base : next.base ≡ along.base

stays_by : (draft : Draft) (along : Along) (part : Part) (value : Data) (b c : Bool) → scan draft (is_object value) (along.since ++ part ∷ []) ≡ b → bytes_eq along.base along.base ≡ c → identifier draft value ≡ None → StaysThere draft along part value
stays_by draft along part value b c scanned same none =
    let since = along.since ++ part ∷ [] in
    let given : Option (List ℕ) → Result Along Refusal = λ id. base_within along.base id >>= λ uri. Ok (changed_base (record along { since = since }) uri) in
    let no_id : cond (scan draft (is_object value) since) (identifier draft value) None ≡ None = ap (λ x. cond x (identifier draft value) None) scanned ∙ either b none in
    record {
      next = cond c (record along { since = since }) (record { base = along.base; since = [] });
      is = ap given no_id ∙ ap (λ x. Ok (cond x (record along { since = since }) (record { base = along.base; since = [] }))) same;
      base = of_both c;
    }
  where
    either : (x : Bool) → identifier draft value ≡ None → cond x (identifier draft value) None ≡ None
    either true is = is
    either false is = refl

    of_both : (x : Bool) → (cond x (record along { since = along.since ++ part ∷ [] }) (record { base = along.base; since = [] })).base ≡ along.base
    of_both true = refl
    of_both false = refl

stays_there : (draft : Draft) (along : Along) (part : Part) (value : Data) → identifier draft value ≡ None → StaysThere draft along part value
stays_there draft along part value none = stays_by draft along part value (scan draft (is_object value) (along.since ++ part ∷ [])) (bytes_eq along.base along.base) refl refl none

no_identifier : (draft : Draft) → identifier draft (object no_members) ≡ None
no_identifier Draft4 = refl
no_identifier Draft6 = refl
no_identifier Draft7 = refl
no_identifier Draft201909 = refl
no_identifier Draft202012 = refl
no_identifier Unknown = refl

-- a token that is no key of an object
no_step : (draft : Draft) (pointer : List ℕ) (along : Along) (value : Data) (token : List ℕ) (more : List (List ℕ)) → is_object value ≡ true → get (unescape token) value ≡ None
    → walked_along draft pointer along value (token ∷ more) ≡ Err (PointerToNowhere pointer)
no_step draft pointer along value token more is none =
    ap (λ r. r >>= λ s. as_invalid_uri (along_part draft along s.0 s.1) >>= λ next. walked_along draft pointer next s.1 more)
    (object_step pointer value token is ∙ ap (λ o. ok_or o (PointerToNowhere pointer) >>= λ d. Ok (Key (unescape token), d)) none)

-- the walk into the definitions that are added
into_new : (top : Document) (e : ℕ × Document) (es : List (ℕ × Document)) → is_object top.tree ≡ true → AllByRecursion (λ x. IsEmbeddable top x.1) (e ∷ es) → get (definitions_keyword top.draft) top.tree ≡ None
    → (pointer : List ℕ) (along : Along) (token : List ℕ) (more : List (List ℕ)) → unescape token ≡ definitions_keyword top.draft
    → (next : Along) × (next.base ≡ along.base) × (walked_along top.draft pointer along (tree_with top (e ∷ es)) (token ∷ more) ≡ walked_along top.draft pointer next (object (with_all (map (member_of top.draft) (e ∷ es)) (definitions_of top))) more)
into_new top e es is able none pointer along token more own =
    let all = object (with_all (map (member_of top.draft) (e ∷ es)) (definitions_of top)) in
    let at_now : get (unescape token) (tree_with top (e ∷ es)) ≡ Some all = ap (λ k. get k (tree_with top (e ∷ es))) own ∙ more_there top e es is in
    let unnamed : identifier top.draft all ≡ None =
    same_identifier top (e ∷ es) (definitions_of top) able ∙ ap (λ ms. identifier top.draft (object ms)) (none_of_them top none) ∙ no_identifier top.draft in
    let stays = stays_there top.draft along (Key (unescape token)) all unnamed in (
      stays.next,
      stays.base,
      walk_there top.draft pointer along (tree_with top (e ∷ es)) token more all (object_top top (e ∷ es) ∙ is) at_now
          ∙ ap (λ x. as_invalid_uri x >>= λ to. walked_along top.draft pointer to all more) stays.is,
    )

in_new : (layer : Layer) (fs : Further) (n : ℕ) (top : Document) (e : ℕ × Document) (es : List (ℕ × Document)) → to_embed layer fs n ≡ e ∷ es → is_object top.tree ≡ true → AllByRecursion (λ x. IsEmbeddable top x.1) (e ∷ es) → get (definitions_keyword top.draft) top.tree ≡ None
    → (r : Resolver) (along : Along) → along.base ≡ r.base → (text token : List ℕ) (more : List (List ℕ)) → is_utf8 (percent_decode text) ≡ true → tokens (percent_decode text) ≡ token ∷ more → bytes_eq (unescape token) (definitions_keyword top.draft) ≡ true → IsApart layer fs n top (47 ∷ text)
    → IsRootAnswer layer fs n top (bundle_of top (e ∷ es)) r (47 ∷ text) (AnswerOf r top.draft (walked_along top.draft (47 ∷ text) along (tree_with top (e ∷ es)) (token ∷ more))) (AnswerOf r top.draft (walked_along top.draft (47 ∷ text) along top.tree (token ∷ more)))
in_new layer fs n top e es are is able none r along at text token [] utf8 first same apart_ =
    let own : unescape token ≡ definitions_keyword top.draft = (bytes_eq-Decides (unescape token) (definitions_keyword top.draft)).0 same in
    let all = object (with_all (map (member_of top.draft) (e ∷ es)) (definitions_of top)) in
    let into = into_new top e es is able none (47 ∷ text) along token [] own in
    inr (record {
      pointer = one_token (definitions_keyword top.draft) text token utf8 first own;
      answers = new_ones none
          (ap (AnswerOf r top.draft) into.2
          ∙ ap (λ base. Ok (record { value = all; draft = top.draft; resolver = record r { base = base } })) (into.1 ∙ at)
          ∙ ap (λ v. Ok (record { value = v; draft = top.draft; resolver = r })) (all_are layer fs n top (e ∷ es) are))
          (ap (AnswerOf r top.draft) (no_step top.draft (47 ∷ text) along top.tree token [] is (ap (λ k. get k top.tree) own ∙ none)));
    })
in_new layer fs n top e es are is able none r along at text token (second ∷ more) utf8 first same apart_ =
    let own : unescape token ≡ definitions_keyword top.draft = (bytes_eq-Decides (unescape token) (definitions_keyword top.draft)).0 same in
    let all = with_all (map (member_of top.draft) (e ∷ es)) (definitions_of top) in
    let into = into_new top e es is able none (47 ∷ text) along token (second ∷ more) own in
    let other = none_second layer fs n top (e ∷ es) are text token second more utf8 first same apart_ in
    let nothing : get (unescape second) (object all) ≡ None =
    get_with_all top.draft (unescape second) (e ∷ es) (definitions_of top) other ∙ ap (get_member (unescape second)) (none_of_them top none) in
    inl (equal_answer layer fs n top (bundle_of top (e ∷ es)) _ _
    (ap (AnswerOf r top.draft)
    (into.2 ∙ no_step top.draft (47 ∷ text) into.0 (object all) second more refl nothing
    ∙ sym (no_step top.draft (47 ∷ text) along top.tree token (second ∷ more) is (ap (λ k. get k top.tree) own ∙ none)))))

-- ---- any pointer from the root

root_step : (layer : Layer) (fs : Further) (n : ℕ) (top : Document) (e : ℕ × Document) (es : List (ℕ × Document)) → to_embed layer fs n ≡ e ∷ es → HasRoom top (e ∷ es) → AllByRecursion (λ x. IsEmbeddable top x.1) (e ∷ es)
    → (r : Resolver) (along : Along) → along.base ≡ r.base → (text token : List ℕ) (more : List (List ℕ)) → is_utf8 (percent_decode text) ≡ true → tokens (percent_decode text) ≡ token ∷ more → IsApart layer fs n top (47 ∷ text)
    → (b : Bool) → bytes_eq (unescape token) (definitions_keyword top.draft) ≡ b
    → (get (definitions_keyword top.draft) top.tree ≡ None) ⊎ ((few : Members) × (get (definitions_keyword top.draft) top.tree ≡ Some (object few)))
    → IsRootAnswer layer fs n top (bundle_of top (e ∷ es)) r (47 ∷ text) (AnswerOf r top.draft (walked_along top.draft (47 ∷ text) along (tree_with top (e ∷ es)) (token ∷ more))) (AnswerOf r top.draft (walked_along top.draft (47 ∷ text) along top.tree (token ∷ more)))
root_step layer fs n top e es are room able r along at text token more utf8 first apart_ true own (inl none) =
    in_new layer fs n top e es are room.object able none r along at text token more utf8 first own apart_
root_step layer fs n top e es are room able r along at text token more utf8 first apart_ true own (inr some) =
    in_definitions layer fs n top e es are room.object able some.0 some.1 r along text token more utf8 first own apart_
root_step layer fs n top e es are room able r along at text token more utf8 first apart_ false own has =
    inl (equal_answer layer fs n top (bundle_of top (e ∷ es)) _ _
    (ap (AnswerOf r top.draft)
    (walk_alike top.draft (47 ∷ text) along (tree_with top (e ∷ es)) top.tree token more (object_top top (e ∷ es) ∙ room.object) room.object
    (get_top top (e ∷ es) (unescape token) (apart (unescape token) (definitions_keyword top.draft) own)))))

root_tokens : (layer : Layer) (fs : Further) (n : ℕ) (top : Document) (e : ℕ × Document) (es : List (ℕ × Document)) → to_embed layer fs n ≡ e ∷ es → HasRoom top (e ∷ es) → AllByRecursion (λ x. IsEmbeddable top x.1) (e ∷ es)
    → (r : Resolver) (along : Along) → along.base ≡ r.base → Contains (uris_of top (root top)) r.base → (text : List ℕ) (list : List (List ℕ)) → is_utf8 (percent_decode text) ≡ true → tokens (percent_decode text) ≡ list → IsApart layer fs n top (47 ∷ text)
    → IsRootAnswer layer fs n top (bundle_of top (e ∷ es)) r (47 ∷ text) (AnswerOf r top.draft (walked_along top.draft (47 ∷ text) along (tree_with top (e ∷ es)) list)) (AnswerOf r top.draft (walked_along top.draft (47 ∷ text) along top.tree list))
root_tokens layer fs n top e es are room able r along at bears text [] utf8 is apart_ = inl (the_root r.base bears (inl at) refl refl, refl, refl)
root_tokens layer fs n top e es are room able r along at bears text (token ∷ more) utf8 is apart_ =
    root_step layer fs n top e es are room able r along at text token more utf8 is apart_ (bytes_eq (unescape token) (definitions_keyword top.draft)) refl room.has_map

-- a pointer is percent-decoded, and then walked
root_decoded : (layer : Layer) (fs : Further) (n : ℕ) (top : Document) (e : ℕ × Document) (es : List (ℕ × Document)) → to_embed layer fs n ≡ e ∷ es → HasRoom top (e ∷ es) → AllByRecursion (λ x. IsEmbeddable top x.1) (e ∷ es)
    → (r : Resolver) (along : Along) → along.base ≡ r.base → Contains (uris_of top (root top)) r.base → (text : List ℕ) → IsApart layer fs n top (47 ∷ text) → (b : Bool) → is_utf8 (percent_decode text) ≡ b
    → IsRootAnswer layer fs n top (bundle_of top (e ∷ es)) r (47 ∷ text) (AnswerOf r top.draft (cond b (walked_along top.draft (47 ∷ text) along (tree_with top (e ∷ es)) (tokens (percent_decode text))) (Err (InvalidPercentEncoding (47 ∷ text)))))
    (AnswerOf r top.draft (cond b (walked_along top.draft (47 ∷ text) along top.tree (tokens (percent_decode text))) (Err (InvalidPercentEncoding (47 ∷ text)))))
root_decoded layer fs n top e es are room able r along at bears text apart_ true utf8 = root_tokens layer fs n top e es are room able r along at bears text (tokens (percent_decode text)) utf8 refl apart_
root_decoded layer fs n top e es are room able r along at bears text apart_ false utf8 = inl refl

pub root_pointed : (layer : Layer) (fs : Further) (n : ℕ) (top : Document) (es : List (ℕ × Document)) → to_embed layer fs n ≡ es → HasRoomFor top es → AllByRecursion (λ x. IsEmbeddable top x.1) es → (r : Resolver) → Contains (uris_of top (root top)) r.base → (text : List ℕ) → IsApart layer fs n top (47 ∷ text)
    → IsRootAnswer layer fs n top (bundle_of top es) r (47 ∷ text) (AnswerOf r top.draft (pointed_value top.draft (47 ∷ text) r.base (tree_with top es) text)) (AnswerOf r top.draft (pointed_value top.draft (47 ∷ text) r.base top.tree text))
root_pointed layer fs n top [] are room able r bears text apart_ = inl (same_answer layer fs n top (bundle_of top []) (AnswerOf r top.draft (pointed_value top.draft (47 ∷ text) r.base top.tree text)))
root_pointed layer fs n top (e ∷ es) are room able r bears text apart_ =
    root_decoded layer fs n top e es are room able r (record { base = r.base; since = [] }) refl bears text apart_ (is_utf8 (percent_decode text)) refl
