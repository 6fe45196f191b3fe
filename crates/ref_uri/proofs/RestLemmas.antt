-- What is left of a text after each component, and that the components fit.
use Rattle.std.proofs.Common.{◌≡◌, ◌∙◌, ℕ, ◌+◌, ◌≤◌, List, [], ◌++◌, Option, Some, None, ap, option_map, length, length-append, take, drop, codes, not, eqb, ltb, ◌&&◌, arith, inl, inr}
use Rattle.std.specs.Option.{ForSome}
use Rattle.std.specs.List.{position_or_len, before_first}
use Rattle.std.proofs.lemmas.Bool.{cases_Bool}
use Rattle.std.proofs.lemmas.List.Folds.{length-prefix_len}
use Rattle.std.proofs.Common.{get_or, refl}
use Rattle.ref_uri.specs.Components.{scheme, authority, query, text_after, framed_component, after_scheme, after_authority, after_path, after_query, authority_in_front, query_in_front, begins_with_slashes, ends_scheme, ends_authority, ends_path, ends_query}
use Rattle.ref_uri.proofs.StructureLemmas.{scheme_and_rest, authority_and_rest, query_and_rest}

-- The rests are those of the definition.
pub scheme_gone : (text rest : List ℕ) (s : Option ℕ) → s ≡ option_map length (scheme text) → rest ≡ text_after s 1 text → rest ≡ after_scheme text
unfolding after_scheme
scheme_gone text rest s len is = is ∙ ap (λ n. text_after n 1 text) len

pub authority_gone : (text before rest : List ℕ) (a : Option ℕ) → before ≡ after_scheme text → a ≡ option_map length (authority_in_front before) → rest ≡ text_after a 2 before → rest ≡ after_authority text
unfolding after_authority authority
authority_gone text before rest a same len is = is ∙ ap (λ n. text_after n 2 before) len ∙ ap (λ t. text_after (option_map length (authority_in_front t)) 2 t) same

pub path_gone : (text before rest : List ℕ) (p : ℕ) → before ≡ after_authority text → p ≡ position_or_len ends_path before → rest ≡ drop p before → rest ≡ after_path text
unfolding after_path
path_gone text before rest p same len is = is ∙ ap (λ n. drop n before) len ∙ ap (λ t. drop (position_or_len ends_path t) t) same

pub query_gone : (text before rest : List ℕ) (q : Option ℕ) → before ≡ after_path text → q ≡ option_map length (query_in_front before) → rest ≡ text_after q 1 before → rest ≡ after_query text
unfolding after_query query
query_gone text before rest q same len is = is ∙ ap (λ n. text_after n 1 before) len ∙ ap (λ t. text_after (option_map length (query_in_front t)) 1 t) same

-- a component with its marks is no longer than the text that it begins
framed_fits : (before after : List ℕ) (component : Option (List ℕ)) (rest text : List ℕ) → framed_component before component after ++ rest ≡ text → ForSome (option_map length component) (λ n. n + (length before + length after) ≤ length text)
framed_fits before after None rest text is = λ x e. cc
framed_fits before after (Some part) rest text is = λ x e.
    let same : length part ≡ x = cc in
    omega (arith, same, simp length-append at (ap length is))

pub scheme_fits : (text : List ℕ) → ForSome (option_map length (scheme text)) (λ n. n + 1 ≤ length text)
scheme_fits text = framed_fits [] (codes ":") (scheme text) (after_scheme text) text (scheme_and_rest text)

pub authority_fits : (text : List ℕ) → ForSome (option_map length (authority_in_front text)) (λ n. n + 2 ≤ length text)
authority_fits text = framed_fits (codes "//") [] (authority_in_front text) (text_after (option_map length (authority_in_front text)) 2 text) text (authority_and_rest text)

pub query_fits : (text : List ℕ) → ForSome (option_map length (query_in_front text)) (λ n. n + 1 ≤ length text)
query_fits text = framed_fits (codes "?") [] (query_in_front text) (text_after (option_map length (query_in_front text)) 1 text) text (query_and_rest text)

-- a component is its length of the text
pub scheme_read : (text : List ℕ) → option_map (λ n. take n (drop 0 text)) (option_map length (scheme text)) ≡ scheme text
unfolding scheme
scheme_read text =
    elim (cases_Bool (ltb 0 (length (before_first ends_scheme text)) && eqb (get_or text (length (before_first ends_scheme text)) 0) 58)) [
      | inl there ↦ rw there (ap (λ n. Some (take n text)) (length-prefix_len (λ c. not (ends_scheme c)) text))
      | inr absent ↦ rw absent refl
    ]

pub authority_read : (text : List ℕ) → option_map (λ n. take n (drop 2 text)) (option_map length (authority_in_front text)) ≡ authority_in_front text
authority_read text =
    elim (cases_Bool (begins_with_slashes text)) [
      | inl there ↦ rw there (ap (λ n. Some (take n (drop 2 text))) (length-prefix_len (λ c. not (ends_authority c)) (drop 2 text)))
      | inr absent ↦ rw absent refl
    ]

pub query_read : (text : List ℕ) → option_map (λ n. take n (drop 1 text)) (option_map length (query_in_front text)) ≡ query_in_front text
query_read text =
    elim (cases_Bool (eqb (get_or text 0 0) 63)) [
      | inl there ↦ rw there (ap (λ n. Some (take n (drop 1 text))) (length-prefix_len (λ c. not (ends_query c)) (drop 1 text)))
      | inr absent ↦ rw absent refl
    ]
