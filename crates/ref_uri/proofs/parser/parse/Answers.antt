use Rattle.std.proofs.Common.{◌≡◌, ◌≤◌, ◌∙◌, ℕ, true, take, subst, List, Option, not, sym, ap, option_map, length}
use Rattle.std.specs.List.{position_or_len, before_first}
use Rattle.std.proofs.lemmas.List.Folds.{length-prefix_len}
use Rattle.ref_uri.specs.Components.{scheme, authority, path, query, fragment, after_scheme, after_authority, after_path, after_query, authority_in_front, query_in_front, fragment_in_front, ends_path, is_path, is_query, if_there}
use Rattle.ref_uri.specs.Characters.{is_encoded, is_path_character}
use Rattle.ref_uri.specs.Authority.{is_authority}
use Rattle.ref_uri.specs.inner.Lengths.{the_lengths, lengths_of}
use Rattle.ref_uri.proofs.PathLemmas.{no_authority, no_path, no_query, no_fragment, all_there, refusal}
use Rattle.ref_uri.proofs.RestLemmas.{scheme_gone, authority_gone, path_gone, query_gone}
use Rattle.ref_uri.proofs.parser.parse.Goals as goal

path_tested : (text before : List ℕ) → before ≡ after_authority text → is_path (path text) ≡ is_path (before_first ends_path before)
unfolding path
path_tested text before same = ap (λ t. is_path (before_first ends_path t)) (sym same)

authority_tested : (text before : List ℕ) → before ≡ after_scheme text → if_there is_authority (authority text) ≡ if_there is_authority (authority_in_front before)
unfolding authority
authority_tested text before same = ap (λ t. if_there is_authority (authority_in_front t)) (sym same)

query_tested : (text before : List ℕ) → before ≡ after_path text → if_there is_query (query text) ≡ if_there is_query (query_in_front before)
unfolding query
query_tested text before same = ap (λ t. if_there is_query (query_in_front t)) (sym same)

fragment_tested : (text before : List ℕ) → before ≡ after_query text → if_there is_query (fragment text) ≡ if_there is_query (fragment_in_front before)
unfolding fragment
fragment_tested text before same = ap (λ t. if_there is_query (fragment_in_front t)) (sym same)

-- the lengths are those of the definition
lengths_are : (text one two three : List ℕ) (s a q : Option ℕ) (p : ℕ) → one ≡ after_scheme text → two ≡ after_authority text → three ≡ after_path text → s ≡ option_map length (scheme text) → a ≡ option_map length (authority_in_front one) → p ≡ position_or_len ends_path two → q ≡ option_map length (query_in_front three) → the_lengths s a p q ≡ lengths_of text
unfolding authority path query
lengths_are text one two three s a q p rest_one rest_two rest_three s_is a_is p_is q_is =
    let authority_is : a ≡ option_map length (authority text) = a_is ∙ ap (λ t. option_map length (authority_in_front t)) rest_one in
    let path_is : p ≡ length (path text) = p_is ∙ ap (λ t. position_or_len ends_path t) rest_two ∙ sym (length-prefix_len (λ c. not (ends_path c)) (after_authority text)) in
    let query_is : q ≡ option_map length (query text) = q_is ∙ ap (λ t. option_map length (query_in_front t)) rest_three in
    ap (λ x. the_lengths x a p q) s_is ∙ ap (λ x. the_lengths (option_map length (scheme text)) x p q) authority_is
    ∙ ap (λ x. the_lengths (option_map length (scheme text)) (option_map length (authority text)) x q) path_is
    ∙ ap (λ x. the_lengths (option_map length (scheme text)) (option_map length (authority text)) (length (path text)) x) query_is

pub returns-in_err-front-clause-accepted : goal.returns-in_err-front-clause-accepted
returns-in_err-front-clause-accepted c =
    refusal _ _ c.from_residual.ensures.0 c.in_err-front.ensures.refused

-- the first bytes of the path that were read
pub part_len-requires-clause-read_within : goal.part_len-requires-clause-read_within
part_len-requires-clause-read_within c =
    let one = scheme_gone c.args.text.now c.after_component-rest.result.now c.in_ok-front.front.scheme c.in_ok-front.ensures.scheme c.after_component-rest.ensures in
    let two = authority_gone c.args.text.now c.after_component-rest.result.now c.after_component-rest-2.result.now c.in_ok-authority.authority one c.in_ok-authority.ensures.len c.after_component-rest-2.ensures in
    subst (λ (t : List ℕ). c.in_ok-front.front.segment ≤ length t) (sym two) c.in_ok-front.ensures.within

pub part_len-requires-clause-read_encoded : goal.part_len-requires-clause-read_encoded
part_len-requires-clause-read_encoded c =
    let one = scheme_gone c.args.text.now c.after_component-rest.result.now c.in_ok-front.front.scheme c.in_ok-front.ensures.scheme c.after_component-rest.ensures in
    let two = authority_gone c.args.text.now c.after_component-rest.result.now c.after_component-rest-2.result.now c.in_ok-authority.authority one c.in_ok-authority.ensures.len c.after_component-rest-2.ensures in
    subst (λ (t : List ℕ). is_encoded is_path_character (take c.in_ok-front.front.segment t) ≡ true) (sym two) c.in_ok-front.ensures.encoded

pub returns-in_err-authority-clause-accepted : goal.returns-in_err-authority-clause-accepted
returns-in_err-authority-clause-accepted c =
    let one = scheme_gone c.args.text.now c.after_component-rest.result.now c.in_ok-front.front.scheme c.in_ok-front.ensures.scheme c.after_component-rest.ensures in
    refusal _ _ c.from_residual-in_err-authority.ensures.0 (no_authority c.args.text.now (authority_tested c.args.text.now c.after_component-rest.result.now one ∙ sym c.in_err-authority.ensures.accepted))

pub returns-in_err-path-clause-accepted : goal.returns-in_err-path-clause-accepted
returns-in_err-path-clause-accepted c =
    let one = scheme_gone c.args.text.now c.after_component-rest.result.now c.in_ok-front.front.scheme c.in_ok-front.ensures.scheme c.after_component-rest.ensures in
    let two = authority_gone c.args.text.now c.after_component-rest.result.now c.after_component-rest-2.result.now c.in_ok-authority.authority one c.in_ok-authority.ensures.len c.after_component-rest-2.ensures in
    refusal _ _ c.from_residual-in_err-path.ensures.0 (no_path c.args.text.now (path_tested c.args.text.now c.after_component-rest-2.result.now two ∙ sym c.in_err-path.ensures.accepted))

pub returns-in_err-query-clause-accepted : goal.returns-in_err-query-clause-accepted
returns-in_err-query-clause-accepted c =
    let one = scheme_gone c.args.text.now c.after_component-rest.result.now c.in_ok-front.front.scheme c.in_ok-front.ensures.scheme c.after_component-rest.ensures in
    let two = authority_gone c.args.text.now c.after_component-rest.result.now c.after_component-rest-2.result.now c.in_ok-authority.authority one c.in_ok-authority.ensures.len c.after_component-rest-2.ensures in
    let three = path_gone c.args.text.now c.after_component-rest-2.result.now c.split_at.result.1.now c.in_ok-path.path two c.in_ok-path.ensures.len c.split_at.ensures.back in
    refusal _ _ c.from_residual-in_err-query.ensures.0 (no_query c.args.text.now (query_tested c.args.text.now c.split_at.result.1.now three ∙ sym c.in_err-query.ensures.accepted))

pub returns-then-not-is_fragment_left-clause-accepted : goal.returns-then-not-is_fragment_left-clause-accepted
returns-then-not-is_fragment_left-clause-accepted c =
    let one = scheme_gone c.args.text.now c.after_component-rest.result.now c.in_ok-front.front.scheme c.in_ok-front.ensures.scheme c.after_component-rest.ensures in
    let two = authority_gone c.args.text.now c.after_component-rest.result.now c.after_component-rest-2.result.now c.in_ok-authority.authority one c.in_ok-authority.ensures.len c.after_component-rest-2.ensures in
    let three = path_gone c.args.text.now c.after_component-rest-2.result.now c.split_at.result.1.now c.in_ok-path.path two c.in_ok-path.ensures.len c.split_at.ensures.back in
    let four = query_gone c.args.text.now c.split_at.result.1.now c.after_component.result.now c.in_ok-query.query three c.in_ok-query.ensures.len c.after_component.ensures in
    sym (no_fragment c.args.text.now (fragment_tested c.args.text.now c.after_component.result.now four ∙ sym c.is_fragment_left.ensures ∙ c.if-not-is_fragment_left.true))

pub returns-clause-accepted : goal.returns-clause-accepted
returns-clause-accepted c =
    let one = scheme_gone c.args.text.now c.after_component-rest.result.now c.in_ok-front.front.scheme c.in_ok-front.ensures.scheme c.after_component-rest.ensures in
    let two = authority_gone c.args.text.now c.after_component-rest.result.now c.after_component-rest-2.result.now c.in_ok-authority.authority one c.in_ok-authority.ensures.len c.after_component-rest-2.ensures in
    let three = path_gone c.args.text.now c.after_component-rest-2.result.now c.split_at.result.1.now c.in_ok-path.path two c.in_ok-path.ensures.len c.split_at.ensures.back in
    let four = query_gone c.args.text.now c.split_at.result.1.now c.after_component.result.now c.in_ok-query.query three c.in_ok-query.ensures.len c.after_component.ensures in
    sym (all_there c.args.text.now c.in_ok-front.ensures.tested
    (authority_tested c.args.text.now c.after_component-rest.result.now one ∙ sym c.in_ok-authority.ensures.accepted)
    (path_tested c.args.text.now c.after_component-rest-2.result.now two ∙ sym c.in_ok-path.ensures.accepted)
    (query_tested c.args.text.now c.split_at.result.1.now three ∙ sym c.in_ok-query.ensures.accepted)
    (fragment_tested c.args.text.now c.after_component.result.now four ∙ sym c.is_fragment_left.ensures ∙ c.if-not-is_fragment_left.false))

pub returns-clause-lengths : goal.returns-clause-lengths
returns-clause-lengths c =
    let one = scheme_gone c.args.text.now c.after_component-rest.result.now c.in_ok-front.front.scheme c.in_ok-front.ensures.scheme c.after_component-rest.ensures in
    let two = authority_gone c.args.text.now c.after_component-rest.result.now c.after_component-rest-2.result.now c.in_ok-authority.authority one c.in_ok-authority.ensures.len c.after_component-rest-2.ensures in
    let three = path_gone c.args.text.now c.after_component-rest-2.result.now c.split_at.result.1.now c.in_ok-path.path two c.in_ok-path.ensures.len c.split_at.ensures.back in
    lengths_are c.args.text.now c.after_component-rest.result.now c.after_component-rest-2.result.now c.split_at.result.1.now c.in_ok-front.front.scheme c.in_ok-authority.authority c.in_ok-query.query c.in_ok-path.path one two three c.in_ok-front.ensures.scheme c.in_ok-authority.ensures.len c.in_ok-path.ensures.len c.in_ok-query.ensures.len
