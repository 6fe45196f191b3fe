-- Components that hold what they may are the components of their text.
use Rattle.std.proofs.Common.{◌≡◌, ℕ, suc, ◌+◌, Bool, true, false, cond, ◌&&◌, ◌||◌, not, List, [], ◌∷◌, ◌++◌, length, take, drop, get_or, eqb, ltb, refl, sym, ap, ◌∙◌, arith, inl, inr, ◌⊎◌, Option, Some, None, option_map, codes, append_assoc, append-nil}
use Rattle.std.specs.List.{list_any, list_all, position_or_len, before_first}
use Rattle.std.specs.Char.{is_ascii_alphabetic}
use Rattle.std.proofs.lemmas.Bool.{eqb-true, and_parts, and_from, or_cases, false≢true, and_right, not-true, lt-ltb}
use Rattle.std.proofs.lemmas.Bool.Decides.{nat_tests}
use Rattle.std.proofs.lemmas.List.{take_at, drop_at}
use Rattle.std.proofs.lemmas.List.Folds.{length-prefix_len}
use Rattle.ref_uri.specs.Characters.{is_encoded, is_scheme_character, is_path_character, is_query_character}
use Rattle.ref_uri.specs.Authority.{is_authority}
use Rattle.ref_uri.specs.Components.{Components, components, text_of, framed_component, are_components, if_there, is_scheme, is_path, is_query, is_path_after, scheme, authority, path, query, fragment, after_scheme, after_authority, after_path, after_query, authority_in_front, query_in_front, fragment_in_front, text_after, begins_with_slashes, ends_scheme, ends_authority, ends_path, ends_query}
use Rattle.ref_uri.proofs.PathLemmas.{colon_in_first_segment, slashes_come_first}
use Rattle.ref_uri.proofs.StructureLemmas.{regroup}
use Rattle.ref_uri.proofs.AuthorityCharacters.{is_authority_character, authority_characters, list_all-wider}

-- nothing, or an element that passes in front
abbrev pub Starts : (ℕ → Bool) → List ℕ → Type 0
Starts p text = (text ≡ []) ⊎ (p (get_or text 0 0) ≡ true)

-- the first that passes is after a front in which none does
pub first_past : (p : ℕ → Bool) (front rest : List ℕ) → list_all (λ c. not (p c)) front ≡ true → Starts p rest → position_or_len p (front ++ rest) ≡ length front
first_past p [] [] none starts = refl
first_past p [] (c ∷ rest) none (inl empty) = cc
first_past p [] (c ∷ rest) none (inr passes) = rw passes refl
first_past p (c ∷ front) rest none starts =
    let both = and_parts (not (p c)) (list_all (λ x. not (p x)) front) none in
    let one : 1 + length front ≡ suc (length front) = omega arith in
    rw (both.0, first_past p front rest both.1 starts) one

pub before_after : (p : ℕ → Bool) (front rest : List ℕ) → list_all (λ c. not (p c)) front ≡ true → Starts p rest → before_first p (front ++ rest) ≡ front
before_after p front rest none starts = ap (λ n. take n (front ++ rest)) (first_past p front rest none starts) ∙ take_at front rest (length front) refl

pub rest_after : (p : ℕ → Bool) (front rest : List ℕ) → list_all (λ c. not (p c)) front ≡ true → Starts p rest → drop (position_or_len p (front ++ rest)) (front ++ rest) ≡ rest
rest_after p front rest none starts = ap (λ n. drop n (front ++ rest)) (first_past p front rest none starts) ∙ drop_at front rest (length front) refl

-- a query and a fragment begin with what ends a path, a fragment with what ends a query
fragment_starts : (p : ℕ → Bool) (f : Option (List ℕ)) → p 35 ≡ true → Starts p (framed_component (codes "#") f [])
fragment_starts p None h = inl refl
fragment_starts p (Some f) h = inr h

query_starts : (p : ℕ → Bool) (q f : Option (List ℕ)) → p 63 ≡ true → p 35 ≡ true → Starts p (framed_component (codes "?") q [] ++ framed_component (codes "#") f [])
query_starts p None f h k = fragment_starts p f k
query_starts p (Some q) f h k = inr h

-- the fragment
fragment_found : (f : Option (List ℕ)) → fragment_in_front (framed_component (codes "#") f []) ≡ f
fragment_found None = refl
fragment_found (Some f) = ap (λ t. Some t) (append-nil f)

pub encoded_apart : (allowed p : ℕ → Bool) → ((c : ℕ) → (allowed c || eqb c 37) ≡ true → not (p c) ≡ true) → (text : List ℕ) → is_encoded allowed text ≡ true → list_all (λ c. not (p c)) text ≡ true
encoded_apart allowed p apart text h = list_all-wider (λ c. allowed c || eqb c 37) (λ c. not (p c)) apart text (and_parts _ _ h).0

-- the query, and what is left after it
query_found : (q f : Option (List ℕ)) → if_there is_query q ≡ true → query_in_front (framed_component (codes "?") q [] ++ framed_component (codes "#") f []) ≡ q
query_found None None h = refl
query_found None (Some f) h = refl
query_found (Some q) f h =
    ap (λ t. Some (before_first ends_query (t ++ framed_component (codes "#") f []))) (append-nil q)
    ∙ ap (λ t. Some t) (before_after ends_query q (framed_component (codes "#") f []) (encoded_apart is_query_character ends_query (λ c k. grind (arith, nat_tests)) q h) (fragment_starts ends_query f refl))

past_query : (q f : Option (List ℕ)) → text_after (option_map length q) 1 (framed_component (codes "?") q [] ++ framed_component (codes "#") f []) ≡ framed_component (codes "#") f []
past_query None f = refl
past_query (Some q) f =
    let one : length q + 1 ≡ suc (length q) = omega arith in
    rw (one, append-nil q) (drop_at q (framed_component (codes "#") f []) (length q) refl)

-- the authority, and what is left after it
authority_found : (a : Option (List ℕ)) (rest : List ℕ) → if_there is_authority a ≡ true → ((x : List ℕ) → a ≡ Some x → Starts ends_authority rest) → (a ≡ None → begins_with_slashes rest ≡ false) → authority_in_front (framed_component (codes "//") a [] ++ rest) ≡ a
authority_found None rest h starts no_slashes = rw (no_slashes refl) refl
authority_found (Some a) rest h starts no_slashes =
    ap (λ t. Some (before_first ends_authority (t ++ rest))) (append-nil a)
    ∙ ap (λ t. Some t) (before_after ends_authority a rest (list_all-wider is_authority_character (λ c. not (ends_authority c)) (λ c k. grind (arith, nat_tests)) a (authority_characters a h)) (starts a refl))

past_authority : (a : Option (List ℕ)) (rest : List ℕ) → text_after (option_map length a) 2 (framed_component (codes "//") a [] ++ rest) ≡ rest
past_authority None rest = refl
past_authority (Some a) rest =
    let two : length a + 2 ≡ suc (suc (length a)) = omega arith in
    rw (two, append-nil a) (drop_at a rest (length a) refl)

-- a path with no `//` in front, and what follows it
no_slashes_in : (p : List ℕ) (q f : Option (List ℕ)) → begins_with_slashes p ≡ false → begins_with_slashes (p ++ (framed_component (codes "?") q [] ++ framed_component (codes "#") f [])) ≡ false
no_slashes_in [] None None h = refl
no_slashes_in [] None (Some f) h = refl
no_slashes_in [] (Some q) f h = refl
no_slashes_in (x ∷ []) None None h = h
no_slashes_in (x ∷ []) None (Some f) h = and_right (eqb x 47) false refl
no_slashes_in (x ∷ []) (Some q) f h = and_right (eqb x 47) false refl
no_slashes_in (x ∷ y ∷ p) q f h = h

-- after an authority comes a path that is empty or begins with `/`
path_starts : (p : List ℕ) (q f : Option (List ℕ)) → (eqb (length p) 0 || eqb (get_or p 0 0) 47) ≡ true → Starts ends_authority (p ++ (framed_component (codes "?") q [] ++ framed_component (codes "#") f []))
path_starts [] q f h = query_starts ends_authority q f refl refl
path_starts (x ∷ p) q f h = inr (slash (or_cases (eqb (length (x ∷ p)) 0) (eqb x 47) h))
  where
    slash : ((eqb (length (x ∷ p)) 0 ≡ true) ⊎ (eqb x 47 ≡ true)) → ends_authority x ≡ true
    slash (inl e) = absurd (omega (arith, eqb-true (length (x ∷ p)) 0 e))
    slash (inr e) = rw e refl

scheme_of_name : (text name : List ℕ) → before_first ends_scheme text ≡ name → ltb 0 (length name) ≡ true → get_or text (length name) 0 ≡ 58 → scheme text ≡ Some name
unfolding scheme
scheme_of_name text name before there colon =
    ap (λ n. cond (ltb 0 (length n) && eqb (get_or text (length n) 0) 58) (Some n) None) before ∙ rw (there, colon) refl

no_scheme_at : (text : List ℕ) → eqb (get_or text (position_or_len ends_scheme text) 0) 58 ≡ false → scheme text ≡ None
unfolding scheme
no_scheme_at text other =
    rw (length-prefix_len (λ c. not (ends_scheme c)) text, other, and_right (ltb 0 (position_or_len ends_scheme text)) false refl) refl

-- the scheme, and what is left after it
scheme_found : (s : Option (List ℕ)) (rest : List ℕ) → if_there is_scheme s ≡ true → (s ≡ None → eqb (get_or rest (position_or_len ends_scheme rest) 0) 58 ≡ false) → scheme (framed_component [] s (codes ":") ++ rest) ≡ s
scheme_found None rest h no_colon = no_scheme_at rest (no_colon refl)
scheme_found (Some []) rest h no_colon = absurd (false≢true h)
scheme_found (Some (x ∷ name)) rest h no_colon =
    let both = and_parts (is_ascii_alphabetic x) (list_all is_scheme_character name) h in
    let letter : is_ascii_alphabetic x ≡ true = both.0 in
    let first : not (ends_scheme x) ≡ true = grind (arith, nat_tests) in
    let apart : list_all (λ c. not (ends_scheme c)) (x ∷ name) ≡ true = and_from (not (ends_scheme x)) (list_all (λ c. not (ends_scheme c)) name) first (list_all-wider is_scheme_character (λ c. not (ends_scheme c)) (λ c k. grind (arith, nat_tests)) name both.1) in
    let shape : (x ∷ name) ++ (58 ∷ []) ++ rest ≡ (x ∷ name) ++ (58 ∷ rest) = append_assoc (x ∷ name) (58 ∷ []) rest in
    ap scheme shape ∙ scheme_of_name ((x ∷ name) ++ (58 ∷ rest)) (x ∷ name) (before_after ends_scheme (x ∷ name) (58 ∷ rest) apart (inr refl)) (lt-ltb 0 (length (x ∷ name)) (omega arith)) (get_or_seam (x ∷ name) 58 rest)
  where
    get_or_seam : (a : List ℕ) (c : ℕ) (b : List ℕ) → get_or (a ++ (c ∷ b)) (length a) 0 ≡ c
    get_or_seam [] c b = refl
    get_or_seam (y ∷ a) c b = get_or_seam a c b

past_scheme : (s : Option (List ℕ)) (rest : List ℕ) → text_after (option_map length s) 1 (framed_component [] s (codes ":") ++ rest) ≡ rest
past_scheme None rest = refl
past_scheme (Some s) rest =
    let one : length s + 1 ≡ suc (length s) = omega arith in
    rw one (ap (λ t. drop (suc (length s)) t) (append_assoc s (58 ∷ []) rest) ∙ past s)
  where
    past : (a : List ℕ) → drop (suc (length a)) (a ++ (58 ∷ rest)) ≡ rest
    past [] = refl
    past (y ∷ a) = past a

-- Each step of the definition, by the step before it.
after_scheme-step : (text : List ℕ) (s : Option (List ℕ)) → scheme text ≡ s → after_scheme text ≡ text_after (option_map length s) 1 text
unfolding after_scheme
after_scheme-step text s is = ap (λ o. text_after (option_map length o) 1 text) is

authority-step : (text rest : List ℕ) → after_scheme text ≡ rest → authority text ≡ authority_in_front rest
unfolding authority
authority-step text rest is = ap authority_in_front is

after_authority-step : (text rest : List ℕ) (a : Option (List ℕ)) → after_scheme text ≡ rest → authority text ≡ a → after_authority text ≡ text_after (option_map length a) 2 rest
unfolding after_authority
after_authority-step text rest a is has = ap (λ t. text_after (option_map length (authority text)) 2 t) is ∙ ap (λ o. text_after (option_map length o) 2 rest) has

path-step : (text rest : List ℕ) → after_authority text ≡ rest → path text ≡ before_first ends_path rest
unfolding path
path-step text rest is = ap (λ t. before_first ends_path t) is

after_path-step : (text rest : List ℕ) → after_authority text ≡ rest → after_path text ≡ drop (position_or_len ends_path rest) rest
unfolding after_path
after_path-step text rest is = ap (λ t. drop (position_or_len ends_path t) t) is

query-step : (text rest : List ℕ) → after_path text ≡ rest → query text ≡ query_in_front rest
unfolding query
query-step text rest is = ap query_in_front is

after_query-step : (text rest : List ℕ) (q : Option (List ℕ)) → after_path text ≡ rest → query text ≡ q → after_query text ≡ text_after (option_map length q) 1 rest
unfolding after_query
after_query-step text rest q is has = ap (λ t. text_after (option_map length (query text)) 1 t) is ∙ ap (λ o. text_after (option_map length o) 1 rest) has

fragment-step : (text rest : List ℕ) → after_query text ≡ rest → fragment text ≡ fragment_in_front rest
unfolding fragment
fragment-step text rest is = ap fragment_in_front is

-- The components that hold what they may, each with its test.
pub record Tested (c : Components) : Type 0 where
  pub scheme_test : if_there is_scheme c.scheme ≡ true
  pub authority_test : if_there is_authority c.authority ≡ true
  pub path_test : is_path c.path ≡ true
  pub query_test : if_there is_query c.query ≡ true
  pub fragment_test : if_there is_query c.fragment ≡ true
  pub place_test : is_path_after c.scheme c.authority c.path ≡ true

pub tested : (c : Components) → are_components c ≡ true → Tested c
unfolding are_components
tested c h =
    let six = and_parts (if_there is_scheme c.scheme && if_there is_authority c.authority && is_path c.path && if_there is_query c.query && if_there is_query c.fragment) (is_path_after c.scheme c.authority c.path) h in
    let five = and_parts (if_there is_scheme c.scheme && if_there is_authority c.authority && is_path c.path && if_there is_query c.query) (if_there is_query c.fragment) six.0 in
    let four = and_parts (if_there is_scheme c.scheme && if_there is_authority c.authority && is_path c.path) (if_there is_query c.query) five.0 in
    let three = and_parts (if_there is_scheme c.scheme && if_there is_authority c.authority) (is_path c.path) four.0 in
    let two = and_parts (if_there is_scheme c.scheme) (if_there is_authority c.authority) three.0 in
    record { scheme_test = two.0; authority_test = two.1; path_test = three.1; query_test = four.1; fragment_test = five.1; place_test = six.1 }

-- what follows a scheme, an authority and a path
abbrev after_path_of : Components → List ℕ
after_path_of c = framed_component (codes "?") c.query [] ++ framed_component (codes "#") c.fragment []

abbrev after_scheme_of : Components → List ℕ
after_scheme_of c = framed_component (codes "//") c.authority [] ++ (c.path ++ after_path_of c)

path_apart : (p : List ℕ) → is_path p ≡ true → list_all (λ c. not (ends_path c)) p ≡ true
path_apart p h = encoded_apart is_path_character ends_path (λ c k. grind (arith, nat_tests)) p h

-- after an authority the rest begins with what ends it, and without one it doesn't begin with `//`
rest_starts : (c : Components) → Tested c → (x : List ℕ) → c.authority ≡ Some x → Starts ends_authority (c.path ++ after_path_of c)
rest_starts c t x is = path_starts c.path c.query c.fragment (ap (λ a. is_path_after c.scheme a c.path) (sym is) ∙ t.place_test)

rest_has_no_slashes : (c : Components) → Tested c → c.authority ≡ None → begins_with_slashes (c.path ++ after_path_of c) ≡ false
rest_has_no_slashes c t is = no_slashes_in c.path c.query c.fragment (from_place c.scheme (ap (λ a. is_path_after c.scheme a c.path) (sym is) ∙ t.place_test))
  where
    from_place : (s : Option (List ℕ)) → is_path_after s None c.path ≡ true → begins_with_slashes c.path ≡ false
    from_place None h = not-true (begins_with_slashes c.path) (and_parts (not (begins_with_slashes c.path)) (not (list_any (λ x. eqb x 58) (before_first (λ x. eqb x 47) c.path))) h).0
    from_place (Some s) h = not-true (begins_with_slashes c.path) h

-- without a scheme the first of `:/?#` is no `:`
no_colon_first : (c : Components) → Tested c → c.scheme ≡ None → eqb (get_or (after_scheme_of c) (position_or_len ends_scheme (after_scheme_of c)) 0) 58 ≡ false
no_colon_first c t none = by_authority c.authority (ap (λ s. is_path_after s c.authority c.path) (sym none) ∙ t.place_test)
  where
    by_authority : (a : Option (List ℕ)) → is_path_after None a c.path ≡ true → eqb (get_or (framed_component (codes "//") a [] ++ (c.path ++ after_path_of c)) (position_or_len ends_scheme (framed_component (codes "//") a [] ++ (c.path ++ after_path_of c))) 0) 58 ≡ false
    by_authority (Some a) h = slashes_come_first (framed_component (codes "//") (Some a) [] ++ (c.path ++ after_path_of c)) refl
    by_authority None h =
        let apart = not-true (list_any (λ x. eqb x 58) (before_first (λ x. eqb x 47) c.path)) (and_parts (not (begins_with_slashes c.path)) (not (list_any (λ x. eqb x 58) (before_first (λ x. eqb x 47) c.path))) h).1 in
        sym (colon_in_first_segment (c.path ++ after_path_of c))
        ∙ ap (λ p. list_any (λ x. eqb x 58) (before_first (λ x. eqb x 47) p)) (before_after ends_path c.path (after_path_of c) (path_apart c.path t.path_test) (query_starts ends_path c.query c.fragment refl refl))
        ∙ apart

abbrev the_components : Option (List ℕ) → Option (List ℕ) → List ℕ → Option (List ℕ) → Option (List ℕ) → Components
the_components s a p q f = record { scheme = s; authority = a; path = p; query = q; fragment = f }

regrouped : (c : Components) → text_of c ≡ framed_component [] c.scheme (codes ":") ++ after_scheme_of c
regrouped c = regroup (framed_component [] c.scheme (codes ":")) (framed_component (codes "//") c.authority []) c.path (framed_component (codes "?") c.query []) (framed_component (codes "#") c.fragment [])

-- components that hold what they may are those of their text
pub components-text_of : (c : Components) → are_components c ≡ true → components (text_of c) ≡ c
components-text_of c h =
    let t = tested c h in
    let text = framed_component [] c.scheme (codes ":") ++ after_scheme_of c in
    let rest = c.path ++ after_path_of c in
    let last = framed_component (codes "#") c.fragment [] in
    let s : scheme text ≡ c.scheme = scheme_found c.scheme (after_scheme_of c) t.scheme_test (no_colon_first c t) in
    let one : after_scheme text ≡ after_scheme_of c = after_scheme-step text c.scheme s ∙ past_scheme c.scheme (after_scheme_of c) in
    let a : authority text ≡ c.authority = authority-step text (after_scheme_of c) one ∙ authority_found c.authority rest t.authority_test (rest_starts c t) (rest_has_no_slashes c t) in
    let two : after_authority text ≡ rest = after_authority-step text (after_scheme_of c) c.authority one a ∙ past_authority c.authority rest in
    let apart = path_apart c.path t.path_test in
    let starts = query_starts ends_path c.query c.fragment refl refl in
    let p : path text ≡ c.path = path-step text rest two ∙ before_after ends_path c.path (after_path_of c) apart starts in
    let three : after_path text ≡ after_path_of c = after_path-step text rest two ∙ rest_after ends_path c.path (after_path_of c) apart starts in
    let q : query text ≡ c.query = query-step text (after_path_of c) three ∙ query_found c.query c.fragment t.query_test in
    let four : after_query text ≡ last = after_query-step text (after_path_of c) c.query three q ∙ past_query c.query c.fragment in
    let f : fragment text ≡ c.fragment = fragment-step text last four ∙ fragment_found c.fragment in
    ap components (regrouped c)
    ∙ ap (λ x. the_components x (authority text) (path text) (query text) (fragment text)) s
    ∙ ap (λ x. the_components c.scheme x (path text) (query text) (fragment text)) a
    ∙ ap (λ x. the_components c.scheme c.authority x (query text) (fragment text)) p
    ∙ ap (λ x. the_components c.scheme c.authority c.path x (fragment text)) q
    ∙ ap (λ x. the_components c.scheme c.authority c.path c.query x) f
