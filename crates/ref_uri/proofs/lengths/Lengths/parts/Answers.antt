use Rattle.std.proofs.Common.{◌∙◌, arith}
use Rattle.ref_uri.proofs.LengthsLemmas.{after_scheme_is, after_authority_is, after_path_is, after_query_is, scheme_within, authority_within, path_within, query_within, scheme_is, authority_is, path_is, query_is, fragment_is}
use Rattle.ref_uri.proofs.StructureLemmas.{front_taken, rest_is}
use Rattle.ref_uri.proofs.lengths.Lengths.parts.Goals as goal

pub after_component-after_scheme-requires-clause-within : goal.after_component-after_scheme-requires-clause-within
after_component-after_scheme-requires-clause-within c =
    scheme_within c.args.text.now c.args.self c.requires

pub after_component-after_authority-requires-clause-within : goal.after_component-after_authority-requires-clause-within
after_component-after_authority-requires-clause-within c =
    let one = after_scheme_is c.args.text.now c.args.self c.after_component-after_scheme.result.now c.requires c.after_component-after_scheme.ensures.value in
    authority_within c.args.text.now c.args.self c.after_component-after_scheme.result.now c.requires one

pub tail-after_path-requires-clause-within : goal.tail-after_path-requires-clause-within
tail-after_path-requires-clause-within c =
    let one = after_scheme_is c.args.text.now c.args.self c.after_component-after_scheme.result.now c.requires c.after_component-after_scheme.ensures.value in
    let two = after_authority_is c.args.text.now c.args.self c.after_component-after_scheme.result.now c.after_component-after_authority.result.now c.requires one c.after_component-after_authority.ensures.value in
    path_within c.args.text.now c.args.self c.after_component-after_authority.result.now c.requires two

pub after_component-after_query-requires-clause-within : goal.after_component-after_query-requires-clause-within
after_component-after_query-requires-clause-within c =
    let one = after_scheme_is c.args.text.now c.args.self c.after_component-after_scheme.result.now c.requires c.after_component-after_scheme.ensures.value in
    let two = after_authority_is c.args.text.now c.args.self c.after_component-after_scheme.result.now c.after_component-after_authority.result.now c.requires one c.after_component-after_authority.ensures.value in
    let three = after_path_is c.args.text.now c.args.self c.after_component-after_authority.result.now c.tail-after_path.result.now c.requires two c.tail-after_path.ensures.value in
    query_within c.args.text.now c.args.self c.tail-after_path.result.now c.requires three

pub component-requires-clause-within : goal.component-requires-clause-within
component-requires-clause-within c =
    λ n is. omega (arith, scheme_within c.args.text.now c.args.self c.requires n is)

pub component-requires-2-clause-within : goal.component-requires-2-clause-within
component-requires-2-clause-within c =
    let one = after_scheme_is c.args.text.now c.args.self c.after_component-after_scheme.result.now c.requires c.after_component-after_scheme.ensures.value in
    authority_within c.args.text.now c.args.self c.after_component-after_scheme.result.now c.requires one

pub head-requires-clause-within : goal.head-requires-clause-within
head-requires-clause-within c =
    let one = after_scheme_is c.args.text.now c.args.self c.after_component-after_scheme.result.now c.requires c.after_component-after_scheme.ensures.value in
    let two = after_authority_is c.args.text.now c.args.self c.after_component-after_scheme.result.now c.after_component-after_authority.result.now c.requires one c.after_component-after_authority.ensures.value in
    path_within c.args.text.now c.args.self c.after_component-after_authority.result.now c.requires two

pub component-requires-3-clause-within : goal.component-requires-3-clause-within
component-requires-3-clause-within c =
    let one = after_scheme_is c.args.text.now c.args.self c.after_component-after_scheme.result.now c.requires c.after_component-after_scheme.ensures.value in
    let two = after_authority_is c.args.text.now c.args.self c.after_component-after_scheme.result.now c.after_component-after_authority.result.now c.requires one c.after_component-after_authority.ensures.value in
    let three = after_path_is c.args.text.now c.args.self c.after_component-after_authority.result.now c.tail-after_path.result.now c.requires two c.tail-after_path.ensures.value in
    query_within c.args.text.now c.args.self c.tail-after_path.result.now c.requires three

pub returns-clause-scheme : goal.returns-clause-scheme
returns-clause-scheme c =
    c.component.ensures ∙ scheme_is c.args.text.now c.args.self c.requires

pub returns-clause-authority : goal.returns-clause-authority
returns-clause-authority c =
    let one = after_scheme_is c.args.text.now c.args.self c.after_component-after_scheme.result.now c.requires c.after_component-after_scheme.ensures.value in
    c.component-2.ensures ∙ authority_is c.args.text.now c.args.self c.after_component-after_scheme.result.now c.requires one

pub returns-clause-path : goal.returns-clause-path
returns-clause-path c =
    let one = after_scheme_is c.args.text.now c.args.self c.after_component-after_scheme.result.now c.requires c.after_component-after_scheme.ensures.value in
    let two = after_authority_is c.args.text.now c.args.self c.after_component-after_scheme.result.now c.after_component-after_authority.result.now c.requires one c.after_component-after_authority.ensures.value in
    c.head.ensures ∙ path_is c.args.text.now c.args.self c.after_component-after_authority.result.now c.requires two

pub returns-clause-query : goal.returns-clause-query
returns-clause-query c =
    let one = after_scheme_is c.args.text.now c.args.self c.after_component-after_scheme.result.now c.requires c.after_component-after_scheme.ensures.value in
    let two = after_authority_is c.args.text.now c.args.self c.after_component-after_scheme.result.now c.after_component-after_authority.result.now c.requires one c.after_component-after_authority.ensures.value in
    let three = after_path_is c.args.text.now c.args.self c.after_component-after_authority.result.now c.tail-after_path.result.now c.requires two c.tail-after_path.ensures.value in
    c.component-3.ensures ∙ query_is c.args.text.now c.args.self c.tail-after_path.result.now c.requires three

pub returns-clause-fragment : goal.returns-clause-fragment
returns-clause-fragment c =
    let one = after_scheme_is c.args.text.now c.args.self c.after_component-after_scheme.result.now c.requires c.after_component-after_scheme.ensures.value in
    let two = after_authority_is c.args.text.now c.args.self c.after_component-after_scheme.result.now c.after_component-after_authority.result.now c.requires one c.after_component-after_authority.ensures.value in
    let three = after_path_is c.args.text.now c.args.self c.after_component-after_authority.result.now c.tail-after_path.result.now c.requires two c.tail-after_path.ensures.value in
    let four = after_query_is c.args.text.now c.args.self c.tail-after_path.result.now c.after_component-after_query.result.now c.requires three c.after_component-after_query.ensures.value in
    c.fragment.ensures ∙ fragment_is c.args.text.now c.after_component-after_query.result.now four

pub overflow_sub-text : goal.overflow_sub-text
overflow_sub-text c =
    let one = after_scheme_is c.args.text.now c.args.self c.after_component-after_scheme.result.now c.requires c.after_component-after_scheme.ensures.value in
    let two = after_authority_is c.args.text.now c.args.self c.after_component-after_scheme.result.now c.after_component-after_authority.result.now c.requires one c.after_component-after_authority.ensures.value in
    omega (arith, (front_taken c.args.text.now c.after_component-after_authority.result.now two).0)

pub returns-clause-front : goal.returns-clause-front
returns-clause-front c =
    let one = after_scheme_is c.args.text.now c.args.self c.after_component-after_scheme.result.now c.requires c.after_component-after_scheme.ensures.value in
    let two = after_authority_is c.args.text.now c.args.self c.after_component-after_scheme.result.now c.after_component-after_authority.result.now c.requires one c.after_component-after_authority.ensures.value in
    c.head-front.ensures ∙ (front_taken c.args.text.now c.after_component-after_authority.result.now two).1

pub returns-clause-rest : goal.returns-clause-rest
returns-clause-rest c =
    let one = after_scheme_is c.args.text.now c.args.self c.after_component-after_scheme.result.now c.requires c.after_component-after_scheme.ensures.value in
    let two = after_authority_is c.args.text.now c.args.self c.after_component-after_scheme.result.now c.after_component-after_authority.result.now c.requires one c.after_component-after_authority.ensures.value in
    let three = after_path_is c.args.text.now c.args.self c.after_component-after_authority.result.now c.tail-after_path.result.now c.requires two c.tail-after_path.ensures.value in
    rest_is c.args.text.now c.tail-after_path.result.now three
