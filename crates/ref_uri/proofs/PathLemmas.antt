-- Which path may follow what: of the components of a text only the first segment needs a test.
use Rattle.std.proofs.Common.{◌≡◌, ◌≢◌, ℕ, zero, suc, ◌+◌, ◌<◌, Bool, true, false, cond, ◌&&◌, ◌||◌, not, List, [], ◌∷◌, length, take, drop, drop-drop, get_or, get_or-take, eqb, ◌⊎◌, refl, sym, ap, ◌∙◌, subst, arith, inl, inr, Option, Some, None, is_some, option_map, Result, Ok, Err, is_ok}
use Rattle.std.specs.Result.{IsErr}
use Rattle.std.specs.List.{list_any, position_or_len, before_first}
use Rattle.std.proofs.lemmas.Bool.{cases_Bool, cases_eq, eqb-true, ne_eqb, eq-eqb, and_parts, false≢true, false_from_ne_true, and_right}
use Rattle.std.proofs.lemmas.Bool.Decides.{nat_tests}
use Rattle.std.proofs.lemmas.List.Folds.{length-prefix_len}
use Rattle.ref_uri.specs.Authority.{is_authority}
use Rattle.ref_uri.specs.Reference.{is_uri_reference}
use Rattle.ref_uri.specs.Components.{are_components, if_there, is_scheme, is_path, is_query, query, fragment, text_after, authority_in_front, scheme, authority, path, after_scheme, after_authority, is_path_after, ends_scheme, ends_authority, ends_path, begins_with_slashes}
use Rattle.ref_uri.proofs.EncodedLemmas.{or_true}

-- what is before the first that passes, one element on
pub before_first-cons : (p : ℕ → Bool) (c : ℕ) (text : List ℕ) → before_first p (c ∷ text) ≡ cond (p c) [] (c ∷ before_first p text)
before_first-cons p c text =
    elim (p c) as (λ b. take (cond (not b) (1 + position_or_len p text) 0) (c ∷ text) ≡ cond b [] (c ∷ before_first p text)) [
      | true ↦ refl
      | false ↦ one_more (position_or_len p text)
    ]
  where
    one_more : (k : ℕ) → take (1 + k) (c ∷ text) ≡ c ∷ take k text
    one_more k = let e : 1 + k ≡ suc k = omega arith in rw e refl

-- a read at the first that passes, one element on
pub get_or_first-cons : (p : ℕ → Bool) (c : ℕ) (text : List ℕ) → get_or (c ∷ text) (position_or_len p (c ∷ text)) 0 ≡ cond (p c) c (get_or text (position_or_len p text) 0)
get_or_first-cons p c text =
    elim (p c) as (λ b. get_or (c ∷ text) (cond (not b) (1 + position_or_len p text) 0) 0 ≡ cond b c (get_or text (position_or_len p text) 0)) [
      | true ↦ refl
      | false ↦ one_more (position_or_len p text)
    ]
  where
    one_more : (k : ℕ) → get_or (c ∷ text) (1 + k) 0 ≡ get_or text k 0
    one_more k = let e : 1 + k ≡ suc k = omega arith in rw e refl

-- a `:` is in the first segment exactly where it is the first of `:/?#`
pub colon_in_first_segment : (text : List ℕ) → list_any (λ c. eqb c 58) (before_first (λ c. eqb c 47) (before_first ends_path text)) ≡ eqb (get_or text (position_or_len ends_scheme text) 0) 58
colon_in_first_segment [] = refl
colon_in_first_segment (c ∷ text) =
    rw (before_first-cons ends_path c text, get_or_first-cons ends_scheme c text) (by_cases (colon_in_first_segment text) (cases_Bool (ends_path c)) (cases_eq c 47) (cases_eq c 58))
  where
    by_cases : list_any (λ x. eqb x 58) (before_first (λ x. eqb x 47) (before_first ends_path text)) ≡ eqb (get_or text (position_or_len ends_scheme text) 0) 58 → ((ends_path c ≡ true) ⊎ (ends_path c ≡ false)) → ((c ≡ 47) ⊎ (c ≢ 47)) → ((c ≡ 58) ⊎ (c ≢ 58)) →
        list_any (λ x. eqb x 58) (before_first (λ x. eqb x 47) (cond (ends_path c) [] (c ∷ before_first ends_path text)))
        ≡ eqb (cond (ends_scheme c) c (get_or text (position_or_len ends_scheme text) 0)) 58
    by_cases rest (inl path_ends) b d =
        let ends : ends_scheme c ≡ true = grind (arith, nat_tests) in
        let other : eqb c 58 ≡ false = grind (arith, nat_tests) in
        rw (ends, path_ends, other) refl
    by_cases rest (inr goes_on) (inl is_slash) d =
        let ends : ends_scheme c ≡ true = grind (arith, nat_tests) in
        let other : eqb c 58 ≡ false = grind (arith, nat_tests) in
        let slash : eqb c 47 ≡ true = eq-eqb c 47 is_slash in
        rw (ends, goes_on, other, before_first-cons (λ x. eqb x 47) c (before_first ends_path text), slash) refl
    by_cases rest (inr goes_on) (inr no_slash) (inl is_colon) =
        let ends : ends_scheme c ≡ true = grind (arith, nat_tests) in
        let colon : eqb c 58 ≡ true = eq-eqb c 58 is_colon in
        let slash : eqb c 47 ≡ false = ne_eqb c 47 no_slash in
        rw (ends, goes_on, before_first-cons (λ x. eqb x 47) c (before_first ends_path text), slash, colon) refl
    by_cases rest (inr goes_on) (inr no_slash) (inr no_colon) =
        let ends : ends_scheme c ≡ false = grind (arith, nat_tests) in
        let colon : eqb c 58 ≡ false = ne_eqb c 58 no_colon in
        let slash : eqb c 47 ≡ false = ne_eqb c 47 no_slash in
        rw (ends, goes_on, before_first-cons (λ x. eqb x 47) c (before_first ends_path text), slash, colon) rest

-- a front of a text begins with `//` only where the text does
pub slashes_in_front : (k : ℕ) (text : List ℕ) → begins_with_slashes text ≡ false → begins_with_slashes (take k text) ≡ false
slashes_in_front k text h =
    false_from_ne_true _ (λ yes.
    let both = and_parts (eqb (get_or (take k text) 0 0) 47) (eqb (get_or (take k text) 1 0) 47) yes in
    let second : 1 < k = long k text (eqb-true _ _ both.1) in
    false≢true (sym h ∙ subst (λ (a : ℕ). (eqb a 47 && eqb (get_or text 1 0) 47) ≡ true) (get_or-take k text 0 0 (omega arith)) (subst (λ (b : ℕ). (eqb (get_or (take k text) 0 0) 47 && eqb b 47) ≡ true) (get_or-take k text 1 0 second) yes)))
  where
    long : (k : ℕ) (text : List ℕ) → get_or (take k text) 1 0 ≡ 47 → 1 < k
    long zero text e = absurd (omega (arith, e))
    long (suc zero) [] e = absurd (omega (arith, e))
    long (suc zero) (c ∷ text) e = absurd (omega (arith, e))
    long (suc (suc k)) text e = omega arith

-- after an authority the path is empty or begins with `/`
pub path_after_authority : (text : List ℕ) → ((eqb (length (before_first ends_path (drop (position_or_len ends_authority text) text))) 0) || (eqb (get_or (before_first ends_path (drop (position_or_len ends_authority text) text)) 0 0) 47)) ≡ true
path_after_authority [] = refl
path_after_authority (c ∷ text) =
    elim (ends_authority c) as (λ b. (b ≡ ends_authority c) → (eqb (length (before_first ends_path (drop (cond (not b) (1 + position_or_len ends_authority text) 0) (c ∷ text)))) 0 || eqb (get_or (before_first ends_path (drop (cond (not b) (1 + position_or_len ends_authority text) 0) (c ∷ text))) 0 0) 47) ≡ true) [
      | true ↦ λ e. stops (sym e)
      | false ↦ λ e. goes_on (position_or_len ends_authority text) (path_after_authority text)
    ] refl
  where
    stops : ends_authority c ≡ true → (eqb (length (before_first ends_path (c ∷ text))) 0 || eqb (get_or (before_first ends_path (c ∷ text)) 0 0) 47) ≡ true
    stops e = rw (before_first-cons ends_path c text) (at_slash (cases_Bool (ends_path c)))
      where
        at_slash : ((ends_path c ≡ true) ⊎ (ends_path c ≡ false)) → (eqb (length (cond (ends_path c) [] (c ∷ before_first ends_path text))) 0 || eqb (get_or (cond (ends_path c) [] (c ∷ before_first ends_path text)) 0 0) 47) ≡ true
        at_slash (inl ends) = rw ends refl
        at_slash (inr no_end) =
            let slash : eqb c 47 ≡ true = grind (arith, nat_tests) in
            rw (no_end, slash) (or_true (eqb (length (c ∷ before_first ends_path text)) 0))

    goes_on : (k : ℕ) → (eqb (length (before_first ends_path (drop k text))) 0 || eqb (get_or (before_first ends_path (drop k text)) 0 0) 47) ≡ true → (eqb (length (before_first ends_path (drop (1 + k) (c ∷ text)))) 0 || eqb (get_or (before_first ends_path (drop (1 + k) (c ∷ text))) 0 0) 47) ≡ true
    goes_on k h = let e : 1 + k ≡ suc k = omega arith in rw e h

-- after `//` no scheme's `:` comes first
pub slashes_come_first : (text : List ℕ) → begins_with_slashes text ≡ true → eqb (get_or text (position_or_len ends_scheme text) 0) 58 ≡ false
slashes_come_first [] h = absurd (false≢true h)
slashes_come_first (c ∷ text) h =
    let slash : eqb c 47 ≡ true = (and_parts (eqb c 47) (eqb (get_or (c ∷ text) 1 0) 47) h).0 in
    let ends : ends_scheme c ≡ true = grind (arith, nat_tests) in
    let other : eqb c 58 ≡ false = grind (arith, nat_tests) in
    rw (get_or_first-cons ends_scheme c text, ends, other) refl

-- a path and what is before it, after a scheme
path_of_rest : (s : Option (List ℕ)) (rest : List ℕ) → is_path_after s (authority_in_front rest) (before_first ends_path (text_after (option_map length (authority_in_front rest)) 2 rest)) ≡ (is_some s || (begins_with_slashes rest || not (list_any (λ c. eqb c 58) (before_first (λ c. eqb c 47) (before_first ends_path rest)))))
path_of_rest s rest = elim (cases_Bool (begins_with_slashes rest)) [ inl slashes ↦ with_authority s slashes | inr no_slashes ↦ without s no_slashes ]
  where
    two_more : (k : ℕ) → drop (k + 2) rest ≡ drop k (drop 2 rest)
    two_more k = let e : k + 2 ≡ 2 + k = omega arith in rw e (sym (drop-drop k 2 rest))

    after_two : (s : Option (List ℕ)) → is_path_after s (Some (before_first ends_authority (drop 2 rest))) (before_first ends_path (drop (length (before_first ends_authority (drop 2 rest)) + 2) rest)) ≡ true
    after_two s =
        let same : drop (length (before_first ends_authority (drop 2 rest)) + 2) rest ≡ drop (position_or_len ends_authority (drop 2 rest)) (drop 2 rest) = rw length-prefix_len (two_more (position_or_len ends_authority (drop 2 rest))) in
        rw same (path_after_authority (drop 2 rest))

    with_authority : (s : Option (List ℕ)) → begins_with_slashes rest ≡ true → is_path_after s (authority_in_front rest) (before_first ends_path (text_after (option_map length (authority_in_front rest)) 2 rest)) ≡ (is_some s || (begins_with_slashes rest || not (list_any (λ c. eqb c 58) (before_first (λ c. eqb c 47) (before_first ends_path rest)))))
    with_authority s slashes = rw slashes (after_two s ∙ sym (or_true (is_some s)))

    without : (s : Option (List ℕ)) → begins_with_slashes rest ≡ false → is_path_after s (authority_in_front rest) (before_first ends_path (text_after (option_map length (authority_in_front rest)) 2 rest)) ≡ (is_some s || (begins_with_slashes rest || not (list_any (λ c. eqb c 58) (before_first (λ c. eqb c 47) (before_first ends_path rest)))))
    without None no_slashes = rw (no_slashes, slashes_in_front (position_or_len ends_path rest) rest no_slashes) refl
    without (Some name) no_slashes = rw (no_slashes, slashes_in_front (position_or_len ends_path rest) rest no_slashes) refl

-- of the components of a text the path is as it must be, a `:` in the first segment aside
pub path_test : (text : List ℕ) → is_path_after (scheme text) (authority text) (path text) ≡ (is_some (scheme text) || not (eqb (get_or text (position_or_len ends_scheme text) 0) 58))
unfolding authority path after_authority after_scheme
path_test text = path_of_rest (scheme text) (after_scheme text) ∙ first_colon (scheme text)
  where
    first_colon : (s : Option (List ℕ)) → (is_some s || (begins_with_slashes (text_after (option_map length s) 1 text) || not (list_any (λ c. eqb c 58) (before_first (λ c. eqb c 47) (before_first ends_path (text_after (option_map length s) 1 text)))))) ≡ (is_some s || not (eqb (get_or text (position_or_len ends_scheme text) 0) 58))
    first_colon (Some name) = refl
    first_colon None =
        elim (cases_Bool (begins_with_slashes text)) [
          | inl slashes ↦ rw (slashes, slashes_come_first text slashes) refl
          | inr no_slashes ↦ rw no_slashes (ap not (colon_in_first_segment text))
        ]

-- the last of six tests goes second
last_goes_second : (s a p q f w : Bool) → (((((s && a) && p) && q) && f) && w) ≡ (((((s && w) && a) && p) && q) && f)
last_goes_second false a p q f w = refl
last_goes_second true a p q f true = and_true (((a && p) && q) && f)
  where
    and_true : (b : Bool) → (b && true) ≡ b
    and_true true = refl
    and_true false = refl
last_goes_second true a p q f false = and_right (((a && p) && q) && f) false refl

-- what is tested of the scheme: it is one, or the first of `:/?#` is no `:`
abbrev pub scheme_test : List ℕ → Bool
scheme_test text = if_there is_scheme (scheme text) && (is_some (scheme text) || not (eqb (get_or text (position_or_len ends_scheme text) 0) 58))

-- a text is a reference exactly where its components hold what they may, and no `:` is where a scheme's would
pub reference_is : (text : List ℕ) → is_uri_reference text ≡ (scheme_test text && if_there is_authority (authority text) && is_path (path text) && if_there is_query (query text) && if_there is_query (fragment text))
unfolding is_uri_reference are_components
reference_is text =
    ap (λ w. if_there is_scheme (scheme text) && if_there is_authority (authority text) && is_path (path text) && if_there is_query (query text) && if_there is_query (fragment text) && w) (path_test text) ∙ (last_goes_second (if_there is_scheme (scheme text)) (if_there is_authority (authority text)) (is_path (path text)) (if_there is_query (query text)) (if_there is_query (fragment text)) (is_some (scheme text) || not (eqb (get_or text (position_or_len ends_scheme text) 0) 58)))

second_fails : (s a p q f : Bool) → a ≡ false → (s && a && p && q && f) ≡ false
second_fails true a p q f h = rw h refl
second_fails false a p q f h = refl

third_fails : (s a p q f : Bool) → p ≡ false → (s && a && p && q && f) ≡ false
third_fails true true p q f h = rw h refl
third_fails true false p q f h = refl
third_fails false a p q f h = refl

fourth_fails : (s a p q f : Bool) → q ≡ false → (s && a && p && q && f) ≡ false
fourth_fails true true true q f h = rw h refl
fourth_fails true true false q f h = refl
fourth_fails true false p q f h = refl
fourth_fails false a p q f h = refl

pub no_scheme : (text : List ℕ) → scheme_test text ≡ false → is_uri_reference text ≡ false
no_scheme text h = reference_is text ∙ rw h refl

pub no_authority : (text : List ℕ) → if_there is_authority (authority text) ≡ false → is_uri_reference text ≡ false
no_authority text h = reference_is text ∙ second_fails (scheme_test text) (if_there is_authority (authority text)) (is_path (path text)) (if_there is_query (query text)) (if_there is_query (fragment text)) h

pub no_path : (text : List ℕ) → is_path (path text) ≡ false → is_uri_reference text ≡ false
no_path text h = reference_is text ∙ third_fails (scheme_test text) (if_there is_authority (authority text)) (is_path (path text)) (if_there is_query (query text)) (if_there is_query (fragment text)) h

pub no_query : (text : List ℕ) → if_there is_query (query text) ≡ false → is_uri_reference text ≡ false
no_query text h = reference_is text ∙ fourth_fails (scheme_test text) (if_there is_authority (authority text)) (is_path (path text)) (if_there is_query (query text)) (if_there is_query (fragment text)) h

pub no_fragment : (text : List ℕ) → if_there is_query (fragment text) ≡ false → is_uri_reference text ≡ false
no_fragment text h = reference_is text ∙ and_right _ _ h

pub all_there : (text : List ℕ) → scheme_test text ≡ true → if_there is_authority (authority text) ≡ true → is_path (path text) ≡ true → if_there is_query (query text) ≡ true → if_there is_query (fragment text) ≡ true → is_uri_reference text ≡ true
all_there text s a p q f = reference_is text ∙ rw (s, a, p, q, f) refl

-- a refusal where a test fails
pub refusal : {T E : Type 0} (r : Result T E) (test : Bool) → IsErr r → test ≡ false → is_ok r ≡ test
refusal (Ok x) test bad h = absurd (false≢true bad)
refusal (Err e) test bad h = sym h
