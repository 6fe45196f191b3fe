-- The lengths of a parsed reference fit, and lead to its components.
use Rattle.std.proofs.Common.{◌≡◌, ◌∙◌, ℕ, ◌+◌, ◌≤◌, List, length, option_map, sym, ap, take, drop, not, arith}
use Rattle.std.specs.Option.{ForSome}
use Rattle.std.specs.List.{position_or_len, before_first}
use Rattle.std.proofs.lemmas.List.Folds.{length-prefix_len}
use Rattle.std.proofs.lemmas.List.Sums.{prefix_len-le-length}
use Rattle.ref_uri.specs.Components.{scheme, authority, path, query, fragment, text_after, after_scheme, after_authority, after_path, after_query, authority_in_front, query_in_front, fragment_in_front, ends_path}
use Rattle.ref_uri.specs.declared.lengths.Lengths.{Lengths}
use Rattle.ref_uri.specs.inner.Lengths.{IsParsed}
use Rattle.ref_uri.proofs.RestLemmas.{scheme_gone, authority_gone, path_gone, query_gone, scheme_fits, authority_fits, query_fits, scheme_read, authority_read, query_read}

scheme_len_is : (text : List ℕ) (l : Lengths) → IsParsed text l → l.scheme ≡ option_map length (scheme text)
scheme_len_is text l parsed = ap (λ (x : Lengths). x.scheme) parsed.lengths_are

authority_len_is : (text : List ℕ) (l : Lengths) (rest : List ℕ) → IsParsed text l → rest ≡ after_scheme text → l.authority ≡ option_map length (authority_in_front rest)
unfolding authority
authority_len_is text l rest parsed is = ap (λ (x : Lengths). x.authority) parsed.lengths_are ∙ ap (λ t. option_map length (authority_in_front t)) (sym is)

path_len_is : (text : List ℕ) (l : Lengths) (rest : List ℕ) → IsParsed text l → rest ≡ after_authority text → l.path ≡ position_or_len ends_path rest
unfolding path
path_len_is text l rest parsed is =
    ap (λ (x : Lengths). x.path) parsed.lengths_are ∙ length-prefix_len (λ c. not (ends_path c)) (after_authority text) ∙ ap (λ t. position_or_len ends_path t) (sym is)

query_len_is : (text : List ℕ) (l : Lengths) (rest : List ℕ) → IsParsed text l → rest ≡ after_path text → l.query ≡ option_map length (query_in_front rest)
unfolding query
query_len_is text l rest parsed is = ap (λ (x : Lengths). x.query) parsed.lengths_are ∙ ap (λ t. option_map length (query_in_front t)) (sym is)

pub after_scheme_is : (text : List ℕ) (l : Lengths) (rest : List ℕ) → IsParsed text l → rest ≡ text_after l.scheme 1 text → rest ≡ after_scheme text
after_scheme_is text l rest parsed is = scheme_gone text rest l.scheme (scheme_len_is text l parsed) is

pub after_authority_is : (text : List ℕ) (l : Lengths) (before rest : List ℕ) → IsParsed text l → before ≡ after_scheme text → rest ≡ text_after l.authority 2 before → rest ≡ after_authority text
after_authority_is text l before rest parsed one is = authority_gone text before rest l.authority one (authority_len_is text l before parsed one) is

pub after_path_is : (text : List ℕ) (l : Lengths) (before rest : List ℕ) → IsParsed text l → before ≡ after_authority text → rest ≡ drop l.path before → rest ≡ after_path text
after_path_is text l before rest parsed two is = path_gone text before rest l.path two (path_len_is text l before parsed two) is

pub after_query_is : (text : List ℕ) (l : Lengths) (before rest : List ℕ) → IsParsed text l → before ≡ after_path text → rest ≡ text_after l.query 1 before → rest ≡ after_query text
after_query_is text l before rest parsed three is = query_gone text before rest l.query three (query_len_is text l before parsed three) is

pub scheme_within : (text : List ℕ) (l : Lengths) → IsParsed text l → ForSome l.scheme (λ n. n + 1 ≤ length text)
scheme_within text l parsed = λ n is. scheme_fits text n (sym (scheme_len_is text l parsed) ∙ is)

pub authority_within : (text : List ℕ) (l : Lengths) (rest : List ℕ) → IsParsed text l → rest ≡ after_scheme text → ForSome l.authority (λ n. n + 2 ≤ length rest)
authority_within text l rest parsed one = λ n is. authority_fits rest n (sym (authority_len_is text l rest parsed one) ∙ is)

pub path_within : (text : List ℕ) (l : Lengths) (rest : List ℕ) → IsParsed text l → rest ≡ after_authority text → l.path ≤ length rest
path_within text l rest parsed two = omega (arith, path_len_is text l rest parsed two, prefix_len-le-length (λ c. not (ends_path c)) rest)

pub query_within : (text : List ℕ) (l : Lengths) (rest : List ℕ) → IsParsed text l → rest ≡ after_path text → ForSome l.query (λ n. n + 1 ≤ length rest)
query_within text l rest parsed three = λ n is. query_fits rest n (sym (query_len_is text l rest parsed three) ∙ is)

pub scheme_is : (text : List ℕ) (l : Lengths) → IsParsed text l → option_map (λ n. take n (drop 0 text)) l.scheme ≡ scheme text
scheme_is text l parsed = ap (λ o. option_map (λ n. take n (drop 0 text)) o) (scheme_len_is text l parsed) ∙ scheme_read text

pub authority_is : (text : List ℕ) (l : Lengths) (rest : List ℕ) → IsParsed text l → rest ≡ after_scheme text → option_map (λ n. take n (drop 2 rest)) l.authority ≡ authority text
unfolding authority
authority_is text l rest parsed one =
    ap (λ o. option_map (λ n. take n (drop 2 rest)) o) (authority_len_is text l rest parsed one) ∙ authority_read rest ∙ ap authority_in_front one

pub path_is : (text : List ℕ) (l : Lengths) (rest : List ℕ) → IsParsed text l → rest ≡ after_authority text → take l.path rest ≡ path text
unfolding path
path_is text l rest parsed two = ap (λ n. take n rest) (path_len_is text l rest parsed two) ∙ ap (λ t. before_first ends_path t) two

pub query_is : (text : List ℕ) (l : Lengths) (rest : List ℕ) → IsParsed text l → rest ≡ after_path text → option_map (λ n. take n (drop 1 rest)) l.query ≡ query text
unfolding query
query_is text l rest parsed three =
    ap (λ o. option_map (λ n. take n (drop 1 rest)) o) (query_len_is text l rest parsed three) ∙ query_read rest ∙ ap query_in_front three

pub fragment_is : (text : List ℕ) (rest : List ℕ) → rest ≡ after_query text → fragment_in_front rest ≡ fragment text
unfolding fragment
fragment_is text rest four = ap fragment_in_front four
