use Rattle.std.proofs.Common.{codes, refl, ap, arith, [], ◌∷◌, ◌++◌, length, slice_index, length-append}
use Rattle.ref_uri.specs.inner.Target.{LacksEncodedDot, target_with_dots}
use Rattle.ref_uri.proofs.AsciiLemmas.{reference_ascii}
use Rattle.ref_uri.proofs.OnLiterals.{ref_uri_on_literals}
use Rattle.ref_uri.proofs.TargetLemmas.{not_there}
use Rattle.ref_uri.proofs.laws.body_rows.Goals as goal

-- a triple of another character
no_dot_in_slash : LacksEncodedDot (codes "%2f")
no_dot_in_slash [] after = (λ e. let third = ap (λ l. slice_index l 2) e in omega (arith, third), λ e. let third = ap (λ l. slice_index l 2) e in omega (arith, third))
no_dot_in_slash (c ∷ before) after = (λ e. omega (arith, ap length e, length-append before (codes "%2e" ++ after)), λ e. omega (arith, ap length e, length-append before (codes "%2E" ++ after)))

-- a text that is shorter than a triple
no_triple_in_dot : LacksEncodedDot (codes ".")
no_triple_in_dot before after = (λ e. omega (arith, ap length e, length-append before (codes "%2e" ++ after)), λ e. omega (arith, ap length e, length-append before (codes "%2E" ++ after)))

pub returns : goal.returns
unfolding ref_uri_on_literals target_with_dots
returns c = record {
  rows = record {
    at_in_first_segment = refl;
    colon_not_in_first_segment = refl;
    triple_in_front = refl;
    triple_after = refl;
    begins_with_letter = refl;
    begins_with_percent = refl;
    authority_ends_here = refl;
    authority_goes_on = refl;
    authority_ends_the_text = refl;
    class_of_first_segment = refl;
    class_of_query = refl;
    end_of_userinfo = refl;
    end_of_path = refl;
    some_lengths = refl;
    no_lengths = refl;
    lengths_of_uri = refl;
    lengths_of_nothing = refl;
    parsed_reference = record { ascii = reference_ascii (codes "a") refl; reference = refl; lengths_are = refl };
    no_reference = λ lengths is. let test = is.reference in cc;
    other_lengths = λ is. let same = ap (λ l. l.path) is.lengths_are in omega (arith, same);
    parsed_uri = (record { ascii = reference_ascii (codes "a:") refl; reference = refl; lengths_are = refl }, refl);
    no_uri = λ lengths is. let test = is.1 in cc;
    dot_segment = refl;
    named_segment = refl;
    name_in_front = refl;
    dots_in_front = refl;
    name_after = refl;
    dots_past = refl;
    begun_by_a_name = refl;
    not_begun_by_a_dot = refl;
    on_by_a_dot = refl;
    on_by_a_name = refl;
    path_begun = refl;
    path_gone_on = refl;
    still_in_front = refl;
    dots_within = refl;
    first_taken_away = refl;
    no_more_segments = refl;
    dot_at_the_end = refl;
    nothing_came = refl;
    no_slash_in_front = refl;
    slash_after_a_segment = refl;
    slash_after_a_dot_segment = refl;
    slash_at_the_end = refl;
    no_slash_at_the_end = refl;
    ended_by_a_dot = refl;
    ended_by_a_name = refl;
    lower_case = refl;
    case_as_it_is = refl;
    as_given = refl;
    in_normal_form = refl;
    scheme_as_given = refl;
    scheme_in_normal_form = refl;
    authority_as_given = refl;
    authority_in_normal_form = refl;
    kept_as_given = λ path is. rw is refl;
    of_base_as_given = λ path is. rw is refl;
    removed_as_given = λ path is. rw is refl;
    merged_as_given = λ directory path is at. rw (is, at) refl;
    kept_in_normal_form = λ path is. rw is refl;
    of_base_in_normal_form = λ path is. rw is refl;
    removed_in_normal_form = λ path is. rw is refl;
    merged_in_normal_form = λ directory path is at. rw (is, at) refl;
    path_as_given = λ path is. rw is refl;
    path_in_normal_form = λ path is. rw is refl;
    path_of_a_target = λ path is. rw is refl;
    components_in_normal_form = λ scheme authority path query is on at with. rw (is, on, at, with) refl;
    components_with_a_guard = λ scheme path is at. rw (is, at) refl;
    front_of_both = refl;
    rest_of_both = refl;
    text_without_triples = refl;
    text_with_a_triple = refl;
    lengths_of_some_components = refl;
    lengths_of_no_components = refl;
    part_is_a_path = λ path is. rw is refl;
    part_is_no_path = λ directory path is at parts. let test = parts.1 in cc;
    lacks_encoded_dot = no_dot_in_slash;
    has_encoded_dot = λ lacks. (lacks (codes "a") (codes "b")).1 refl;
    base_loses_same_dots = λ path. tt;
    merged_lose_same_dots = λ directory path is at. rw (is, at) (no_dot_in_slash, no_triple_in_dot);
    loses_more_dots = λ path is lacks. (lacks (codes "/") []).0 is;
    keeps_its_dots = λ path loses. loses;
    some_target = λ path is. record { scheme_test = refl; authority_test = refl; path_test = rw is refl; query_test = refl; fragment_test = refl; front_test = λ x e. absurd (not_there x e); rest_test = λ x e. absurd (not_there x e) };
    no_target = λ path query is target. let test = target.query_test in cc;
    some_parts = λ scheme path fragment is at then. rw (is, at, then) refl;
    no_parts = λ path is. rw is refl;
    after_a_directory = refl;
    after_no_directory = refl;
    path_after_authority = refl;
    path_after_path = refl;
    path_from_the_root = refl;
    dots_of_the_base = refl;
    dots_of_the_reference = refl;
    dots_of_both = refl;
    target_keeps_dots = refl;
    target_of_a_fragment = refl;
    if_memory = λ e. tt;
    if_invalid = λ uri. refl;
  };
}
