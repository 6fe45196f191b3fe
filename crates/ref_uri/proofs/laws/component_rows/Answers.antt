use Rattle.std.proofs.Common.{refl, [], codes}
use Rattle.ref_uri.specs.Components.{components}
use Rattle.ref_uri.proofs.OnLiterals.{ref_uri_on_literals}
use Rattle.ref_uri.proofs.laws.component_rows.Goals as goal

pub returns : goal.returns
unfolding ref_uri_on_literals
returns c = record {
  rows = record {
    with_its_mark = refl;
    empty_with_its_mark = refl;
    absent = refl;
    whole_text = refl;
    path_alone = refl;
    colon_ends_scheme = refl;
    dot_in_scheme = refl;
    slash_ends_authority = refl;
    colon_in_authority = refl;
    question_ends_path = refl;
    slash_in_path = refl;
    hash_ends_query = refl;
    question_in_query = refl;
    after_three = refl;
    after_none = refl;
    past_scheme = refl;
    after_no_scheme = refl;
    two_slashes = refl;
    one_slash = refl;
    authority_there = refl;
    authority_absent = refl;
    past_authority = refl;
    after_no_authority = refl;
    past_path = refl;
    nothing_after_path = refl;
    query_there = refl;
    query_absent = refl;
    past_query = refl;
    after_no_query = refl;
    fragment_there = refl;
    fragment_absent = refl;
    scheme_of_digits_and_plus = refl;
    scheme_of_digit = refl;
    path_with_colon = refl;
    path_with_question = refl;
    query_with_slash = refl;
    query_with_hash = refl;
    absent_is_as_it_must = refl;
    wrong_where_there = refl;
    empty_after_authority = refl;
    rootless_after_authority = refl;
    colon_after_scheme = refl;
    slashes_after_scheme = refl;
    colon_in_first_segment = refl;
    colon_in_second_segment = refl;
    as_they_must = refl;
    path_as_authority = refl;
    with_scheme = refl;
    without_fragment = refl;
    another_fragment = refl;
    empty_fragment = refl;
    text_of_some = (components (codes "//a"), refl, refl);
    text_of_path = (components [], refl, refl);
  };
}
