-- The components of a text make the text again, and components that hold what they may are those of their text.
use Rattle.std.proofs.Common.{◌≡◌, ℕ, suc, ◌+◌, ◌-◌, ◌≤◌, ◌<◌, Bool, true, false, cond, ◌&&◌, not, List, [], ◌∷◌, ◌++◌, length, take, drop, get_or, eqb, ltb, refl, sym, ap, ◌∙◌, arith, inl, inr, ◌⊎◌, option_map, codes, append_assoc, append-nil, length-append}
use Rattle.std.proofs.Math.Seq.{drop-cons}
use Rattle.std.specs.List.{position_or_len, before_first}
use Rattle.std.proofs.lemmas.Bool.{cases_Bool, eqb-true, and_parts, false≢true, cases_lt}
use Rattle.std.proofs.lemmas.Bool.Decides.{nat_tests}
use Rattle.std.proofs.lemmas.List.{take-append-drop, take_at, get_or_past}
use Rattle.std.proofs.lemmas.List.Folds.{length-prefix_len}
use Rattle.ref_uri.specs.Components.{components, text_of, framed_component, scheme, authority, path, query, fragment, after_scheme, after_authority, after_path, after_query, authority_in_front, query_in_front, fragment_in_front, text_after, begins_with_slashes, ends_scheme, ends_authority, ends_path, ends_query}
use Rattle.ref_uri.specs.inner.Written.{the_front, the_rest}

-- a number that is read is inside
reads_inside : (text : List ℕ) (k c : ℕ) → get_or text k 0 ≡ suc c → k < length text
reads_inside text k c e = elim (cases_lt k (length text)) [ inl lt ↦ lt | inr past ↦ absurd (omega (arith, sym e ∙ get_or_past text k 0 past)) ]

-- what is before a place, what is there, and what follows
around : (text : List ℕ) (k c : ℕ) → get_or text k 0 ≡ suc c → take k text ++ (suc c ∷ []) ++ drop (k + 1) text ≡ text
around text k c e =
    let one_more : k + 1 ≡ suc k = omega arith in
    rw one_more (append_assoc (take k text) (suc c ∷ []) (drop (suc k) text)
    ∙ ap (λ (x : ℕ). take k text ++ (x ∷ drop (suc k) text)) (sym e)
    ∙ ap (λ t. take k text ++ t) (sym (drop-cons text k 0 (reads_inside text k c e)))
    ∙ take-append-drop k text)

-- a scheme and what follows it
pub scheme_and_rest : (text : List ℕ) → framed_component [] (scheme text) (codes ":") ++ after_scheme text ≡ text
unfolding scheme after_scheme
scheme_and_rest text =
    elim (cases_Bool (ltb 0 (length (before_first ends_scheme text)) && eqb (get_or text (length (before_first ends_scheme text)) 0) 58)) [
      | inl there ↦ rw there (rw (length-prefix_len (λ c. not (ends_scheme c)) text) (around text (position_or_len ends_scheme text) 57 (at_colon there)))
      | inr absent ↦ rw absent refl
    ]
  where
    at_colon : (ltb 0 (length (before_first ends_scheme text)) && eqb (get_or text (length (before_first ends_scheme text)) 0) 58) ≡ true → get_or text (position_or_len ends_scheme text) 0 ≡ 58
    at_colon there = ap (λ k. get_or text k 0) (sym (length-prefix_len (λ c. not (ends_scheme c)) text)) ∙ eqb-true _ _ (and_parts (ltb 0 (length (before_first ends_scheme text))) (eqb (get_or text (length (before_first ends_scheme text)) 0) 58) there).1

pub authority_and_rest : (text : List ℕ) → framed_component (codes "//") (authority_in_front text) [] ++ text_after (option_map length (authority_in_front text)) 2 text ≡ text
authority_and_rest text =
    elim (cases_Bool (begins_with_slashes text)) [ inl there ↦ rw there (with_slashes text there) | inr absent ↦ rw absent refl ]
  where
    two_more : (x y k : ℕ) (v : List ℕ) → drop (k + 2) (x ∷ y ∷ v) ≡ drop k v
    two_more x y k v = let e : k + 2 ≡ suc (suc k) = omega arith in rw e refl

    with_slashes : (text : List ℕ) → begins_with_slashes text ≡ true → (47 ∷ 47 ∷ (before_first ends_authority (drop 2 text) ++ [])) ++ drop (length (before_first ends_authority (drop 2 text)) + 2) text ≡ text
    with_slashes [] there = absurd (false≢true there)
    with_slashes (x ∷ []) there = absurd (false≢true (and_parts (eqb x 47) false there).1)
    with_slashes (x ∷ y ∷ v) there =
        let both = and_parts (eqb x 47) (eqb y 47) there in
        let first : x ≡ 47 = eqb-true x 47 both.0 in
        let second : y ≡ 47 = eqb-true y 47 both.1 in
        rw (two_more x y (length (before_first ends_authority v)) v, length-prefix_len (λ c. not (ends_authority c)) v, append-nil (before_first ends_authority v), first, second)
        (ap (λ t. 47 ∷ 47 ∷ t) (take-append-drop (position_or_len ends_authority v) v))

pub query_and_rest : (text : List ℕ) → framed_component (codes "?") (query_in_front text) [] ++ text_after (option_map length (query_in_front text)) 1 text ≡ text
query_and_rest text =
    elim (cases_Bool (eqb (get_or text 0 0) 63)) [ inl there ↦ rw there (with_mark text there) | inr absent ↦ rw absent refl ]
  where
    one_more : (x k : ℕ) (v : List ℕ) → drop (k + 1) (x ∷ v) ≡ drop k v
    one_more x k v = let e : k + 1 ≡ suc k = omega arith in rw e refl

    with_mark : (text : List ℕ) → eqb (get_or text 0 0) 63 ≡ true → (63 ∷ (before_first ends_query (drop 1 text) ++ [])) ++ drop (length (before_first ends_query (drop 1 text)) + 1) text ≡ text
    with_mark [] there = absurd (false≢true there)
    with_mark (x ∷ v) there =
        let first : x ≡ 63 = eqb-true x 63 there in
        rw (one_more x (length (before_first ends_query v)) v, length-prefix_len (λ c. not (ends_query c)) v, append-nil (before_first ends_query v), first)
        (ap (λ t. 63 ∷ t) (take-append-drop (position_or_len ends_query v) v))

-- after the place where an element first passes, it comes first
first_in_front : (p : ℕ → Bool) (text : List ℕ) → (drop (position_or_len p text) text ≡ []) ⊎ (p (get_or (drop (position_or_len p text) text) 0 0) ≡ true)
first_in_front p [] = inl refl
first_in_front p (c ∷ text) =
    elim (p c) as (λ b. (p c ≡ b) → (drop (cond (not b) (1 + position_or_len p text) 0) (c ∷ text) ≡ []) ⊎ (p (get_or (drop (cond (not b) (1 + position_or_len p text) 0) (c ∷ text)) 0 0) ≡ true)) [
      | true ↦ λ e. inr e
      | false ↦ λ e. one_more (position_or_len p text) (first_in_front p text)
    ] refl
  where
    one_more : (k : ℕ) → (drop k text ≡ []) ⊎ (p (get_or (drop k text) 0 0) ≡ true) → (drop (1 + k) (c ∷ text) ≡ []) ⊎ (p (get_or (drop (1 + k) (c ∷ text)) 0 0) ≡ true)
    one_more k h = let e : 1 + k ≡ suc k = omega arith in rw e h

fragment_and_nothing : (text : List ℕ) → (text ≡ []) ⊎ (ends_query (get_or text 0 0) ≡ true) → framed_component (codes "#") (fragment_in_front text) [] ≡ text
fragment_and_nothing [] ends = refl
fragment_and_nothing (c ∷ text) (inl empty) = cc
fragment_and_nothing (c ∷ text) (inr mark) =
    let first : c ≡ 35 = eqb-true c 35 mark in
    rw mark (rw (first, append-nil text) refl)

-- a query or a fragment, or nothing, follows the path; then a fragment or nothing
query_then_fragment : (text : List ℕ) → (text ≡ []) ⊎ (ends_path (get_or text 0 0) ≡ true) → (text_after (option_map length (query_in_front text)) 1 text ≡ []) ⊎ (ends_query (get_or (text_after (option_map length (query_in_front text)) 1 text) 0 0) ≡ true)
query_then_fragment [] ends = inl refl
query_then_fragment (c ∷ text) (inl empty) = cc
query_then_fragment (c ∷ text) (inr mark) =
    elim (cases_Bool (eqb c 63)) [ inl there ↦ rw there with_query | inr absent ↦ rw absent (inr (other absent)) ]
  where
    with_query : (drop (length (before_first ends_query text) + 1) (c ∷ text) ≡ []) ⊎ (ends_query (get_or (drop (length (before_first ends_query text) + 1) (c ∷ text)) 0 0) ≡ true)
    with_query = rw (length-prefix_len (λ x. not (ends_query x)) text) (one_more (position_or_len ends_query text) (first_in_front ends_query text))
      where
        one_more : (k : ℕ) → (drop k text ≡ []) ⊎ (ends_query (get_or (drop k text) 0 0) ≡ true) → (drop (k + 1) (c ∷ text) ≡ []) ⊎ (ends_query (get_or (drop (k + 1) (c ∷ text)) 0 0) ≡ true)
        one_more k h = let e : k + 1 ≡ suc k = omega arith in rw e h

    other : eqb c 63 ≡ false → eqb c 35 ≡ true
    other absent = grind (arith, nat_tests)

pub regroup : (s a p q f : List ℕ) → s ++ a ++ p ++ q ++ f ≡ s ++ (a ++ (p ++ (q ++ f)))
regroup s a p q f = simp append_assoc

-- the components of a text make the text
pub text_of-components : (text : List ℕ) → text_of (components text) ≡ text
unfolding authority path query fragment after_authority after_path after_query
text_of-components text =
    let rest = after_scheme text in
    let one = authority_in_front rest in
    let two = text_after (option_map length one) 2 rest in
    let three = drop (position_or_len ends_path two) two in
    let four = text_after (option_map length (query_in_front three)) 1 three in
    let last = fragment_and_nothing four (query_then_fragment three (first_in_front ends_path two)) in
    regroup (framed_component [] (scheme text) (codes ":")) (framed_component (codes "//") one []) (before_first ends_path two) (framed_component (codes "?") (query_in_front three) []) (framed_component (codes "#") (fragment_in_front four) [])
    ∙ ap (λ t. framed_component [] (scheme text) (codes ":") ++ (framed_component (codes "//") one [] ++ (before_first ends_path two ++ (framed_component (codes "?") (query_in_front three) [] ++ t)))) last
    ∙ ap (λ t. framed_component [] (scheme text) (codes ":") ++ (framed_component (codes "//") one [] ++ (before_first ends_path two ++ t))) (query_and_rest three)
    ∙ ap (λ t. framed_component [] (scheme text) (codes ":") ++ (framed_component (codes "//") one [] ++ t)) (take-append-drop (position_or_len ends_path two) two)
    ∙ ap (λ t. framed_component [] (scheme text) (codes ":") ++ t) (authority_and_rest rest)
    ∙ scheme_and_rest text

-- what is before the path, and the rest
front_and_after : (text : List ℕ) → the_front (scheme text) (authority text) ++ after_authority text ≡ text
unfolding authority after_authority
front_and_after text =
    let rest = after_scheme text in
    append_assoc (framed_component [] (scheme text) (codes ":")) (framed_component (codes "//") (authority_in_front rest) []) (text_after (option_map length (authority_in_front rest)) 2 rest)
    ∙ ap (λ t. framed_component [] (scheme text) (codes ":") ++ t) (authority_and_rest rest)
    ∙ scheme_and_rest text

pub front_taken : (text rest : List ℕ) → rest ≡ after_authority text → (length rest ≤ length text) × (take (length text - length rest) text ≡ the_front (scheme text) (authority text))
front_taken text rest is =
    let front = the_front (scheme text) (authority text) in
    let whole : front ++ rest ≡ text = ap (λ t. front ++ t) is ∙ front_and_after text in
    let len : length text ≡ length front + length rest = ap length (sym whole) ∙ length-append front rest in
    let at : length text - length rest ≡ length front = omega (arith, len) in
    (omega (arith, len), ap (λ n. take n text) at ∙ ap (take (length front)) (sym whole) ∙ take_at front rest (length front) refl)

-- what is after it
pub rest_is : (text rest : List ℕ) → rest ≡ after_path text → rest ≡ the_rest (query text) (fragment text)
unfolding query fragment after_path after_query
rest_is text rest is =
    let two = after_authority text in
    let three = drop (position_or_len ends_path two) two in
    let four = text_after (option_map length (query_in_front three)) 1 three in
    let last = fragment_and_nothing four (query_then_fragment three (first_in_front ends_path two)) in
    is ∙ sym (ap (λ t. framed_component (codes "?") (query_in_front three) [] ++ t) last ∙ query_and_rest three)
