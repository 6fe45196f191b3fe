use Rattle.std.proofs.Common.{◌≡◌, ℕ, List, true, option_copied, Option, Bor, subst, ap, ◌∙◌, sym, refl, arith}
use Rattle.std.proofs.lemmas.Bool.Decides.{nat_tests}
use Rattle.ref_uri.specs.Characters.{is_path_character}
use Rattle.ref_uri.specs.Components.{is_query, if_there}
use Rattle.ref_uri.specs.DotSegments.{remove_dot_segments}
use Rattle.ref_uri.specs.Normal.{guarded_path, normal_components, normal_text}
use Rattle.ref_uri.specs.inner.Target.{components_of, written_path, path_past}
use Rattle.ref_uri.specs.inner.Written.{is_plain, the_front, the_rest}
use Rattle.std.specs.Str.{IsAscii}
use Rattle.ref_uri.specs.declared.written.Form.TheVariants.{Given, Normal}
use Rattle.ref_uri.proofs.AsciiLemmas.{encoded_ascii, IsAscii-from_all_ascii}
use Rattle.ref_uri.proofs.UniqueLemmas.{tested}
use Rattle.ref_uri.proofs.NormalTargets.{normal_parts_are, dots_with_scheme, dots_with_authority, dots_of_base, dots_past}
use Rattle.ref_uri.proofs.TargetLemmas.{of_that, not_there, resolved_of_scheme, resolved_of_authority, resolved_of_base, resolved_path, none_there, still_there, or_there, or_is_query_or, as_given, the_components}
use Rattle.ref_uri.proofs.target.resolved.Goals as goal

pub returns-then-is_some-clause-target : goal.returns-then-is_some-clause-target
returns-then-is_some-clause-target c =
    let t = tested (components_of c.args.reference) c.requires.reference in
    record { scheme_test = t.scheme_test; authority_test = t.authority_test; path_test = t.path_test; query_test = t.query_test; fragment_test = t.fragment_test; front_test = λ x e. of_that (λ t. (t ≡ the_front (option_copied c.args.reference.scheme) (option_copied c.args.reference.authority)) × IsAscii t) c.args.reference.front.now x (c.requires.framed.front, c.requires.framed.ascii) e; rest_test = λ x e. of_that (λ t. t ≡ the_rest (option_copied c.args.reference.query) (option_copied c.args.reference.fragment)) c.args.reference.rest.now x c.requires.framed.rest e }

pub returns-then-is_some-2-clause-target : goal.returns-then-is_some-2-clause-target
returns-then-is_some-2-clause-target c =
    let b = tested (components_of c.args.base) c.requires.base in
    let t = tested (components_of c.args.reference) c.requires.reference in
    record { scheme_test = b.scheme_test; authority_test = t.authority_test; path_test = t.path_test; query_test = t.query_test; fragment_test = t.fragment_test; front_test = λ x e. absurd (not_there x e); rest_test = λ x e. of_that (λ t. t ≡ the_rest (option_copied c.args.reference.query) (option_copied c.args.reference.fragment)) c.args.reference.rest.now x c.requires.framed.rest e }

pub returns-then-is_empty-clause-target : goal.returns-then-is_empty-clause-target
returns-then-is_empty-clause-target c =
    let b = tested (components_of c.args.base) c.requires.base in
    let t = tested (components_of c.args.reference) c.requires.reference in
    record {
      scheme_test = b.scheme_test;
      authority_test = b.authority_test;
      path_test = b.path_test;
      query_test = subst (λ (o : Option (Bor (List ℕ))). if_there is_query (option_copied o) ≡ true) (sym c.or.ensures) (or_there is_query c.args.reference.query c.args.base.query t.query_test b.query_test);
      fragment_test = t.fragment_test;
      front_test = λ x e. of_that (λ t. (t ≡ the_front (option_copied c.args.base.scheme) (option_copied c.args.base.authority)) × IsAscii t) c.args.base.front.now x (c.requires.base_framed.front, c.requires.base_framed.ascii) e;
      rest_test = λ x e. absurd (not_there x e);
    }

pub path_past-requires : goal.path_past-requires
path_past-requires c =
    let b = tested (components_of c.args.base) c.requires.base in
    IsAscii-from_all_ascii c.args.base.path.now (encoded_ascii is_path_character (λ d k. grind (arith, nat_tests)) c.args.base.path.now b.path_test)

pub returns-clause-target : goal.returns-clause-target
returns-clause-target c =
    let b = tested (components_of c.args.base) c.requires.base in
    let t = tested (components_of c.args.reference) c.requires.reference in
    record {
      scheme_test = b.scheme_test;
      authority_test = b.authority_test;
      path_test = c.path_past.ensures.parts b.path_test t.path_test;
      query_test = t.query_test;
      fragment_test = t.fragment_test;
      front_test = λ x e. of_that (λ t. (t ≡ the_front (option_copied c.args.base.scheme) (option_copied c.args.base.authority)) × IsAscii t) c.args.base.front.now x (c.requires.base_framed.front, c.requires.base_framed.ascii) e;
      rest_test = λ x e. of_that (λ t. t ≡ the_rest (option_copied c.args.reference.query) (option_copied c.args.reference.fragment)) c.args.reference.rest.now x c.requires.framed.rest e;
    }

pub returns-then-is_some-clause-value : goal.returns-then-is_some-clause-value
returns-then-is_some-clause-value c =
    let base = components_of c.args.base in
    let r = components_of c.args.reference in
    as_given r.scheme r.authority (guarded_path r.authority (remove_dot_segments r.path)) r.query r.fragment
    ∙ sym (resolved_of_scheme base r (still_there c.args.reference.scheme (sym c.is_some.ensures ∙ c.if-is_some.true)))

pub returns-then-is_some-2-clause-value : goal.returns-then-is_some-2-clause-value
returns-then-is_some-2-clause-value c =
    let base = components_of c.args.base in
    let r = components_of c.args.reference in
    as_given base.scheme r.authority (guarded_path r.authority (remove_dot_segments r.path)) r.query r.fragment
    ∙ sym (resolved_of_authority base r (none_there c.args.reference.scheme (sym c.is_some.ensures ∙ c.if-is_some.false)) (still_there c.args.reference.authority (sym c.is_some-2.ensures ∙ c.if-is_some-2.true)))

pub returns-then-is_empty-clause-value : goal.returns-then-is_empty-clause-value
returns-then-is_empty-clause-value c =
    let base = components_of c.args.base in
    let r = components_of c.args.reference in
    let scheme = none_there c.args.reference.scheme (sym c.is_some.ensures ∙ c.if-is_some.false) in
    let authority = none_there c.args.reference.authority (sym c.is_some-2.ensures ∙ c.if-is_some-2.false) in
    as_given base.scheme base.authority (guarded_path base.authority base.path) (option_copied c.or.result) r.fragment
    ∙ ap (λ q. the_components base.scheme base.authority (guarded_path base.authority base.path) q r.fragment) (ap option_copied c.or.ensures ∙ or_is_query_or c.args.reference.query c.args.base.query)
    ∙ sym (resolved_of_base base r scheme authority (sym c.is_empty.ensures ∙ c.if-is_empty.true))

pub returns-clause-value : goal.returns-clause-value
returns-clause-value c =
    let base = components_of c.args.base in
    let reference = components_of c.args.reference in
    let scheme = none_there c.args.reference.scheme (sym c.is_some.ensures ∙ c.if-is_some.false) in
    let authority = none_there c.args.reference.authority (sym c.is_some-2.ensures ∙ c.if-is_some-2.false) in
    as_given base.scheme base.authority (guarded_path base.authority (written_path Given c.path_past.result)) reference.query reference.fragment
    ∙ ap (λ path. the_components base.scheme base.authority (guarded_path base.authority path) reference.query reference.fragment) c.path_past.ensures.value
    ∙ sym (resolved_path base reference scheme authority (sym c.is_empty.ensures ∙ c.if-is_empty.false))

pub returns-then-is_some-clause-normal : goal.returns-then-is_some-clause-normal
returns-then-is_some-clause-normal c = λ based.
    let base = components_of c.args.base in
    let r = components_of c.args.reference in
    let there = still_there c.args.reference.scheme (sym c.is_some.ensures ∙ c.if-is_some.true) in
    normal_parts_are r.scheme r.authority r.path (remove_dot_segments (normal_text r.path)) r.query r.fragment there refl ∙ ap normal_components (sym (dots_with_scheme base r there))

pub returns-then-is_some-2-clause-normal : goal.returns-then-is_some-2-clause-normal
returns-then-is_some-2-clause-normal c = λ based.
    let base = components_of c.args.base in
    let r = components_of c.args.reference in
    let scheme = none_there c.args.reference.scheme (sym c.is_some.ensures ∙ c.if-is_some.false) in
    normal_parts_are base.scheme r.authority r.path (remove_dot_segments (normal_text r.path)) r.query r.fragment based refl
    ∙ ap normal_components (sym (dots_with_authority base r scheme (still_there c.args.reference.authority (sym c.is_some-2.ensures ∙ c.if-is_some-2.true))))

pub returns-then-is_empty-clause-normal : goal.returns-then-is_empty-clause-normal
returns-then-is_empty-clause-normal c = λ based.
    let base = components_of c.args.base in
    let r = components_of c.args.reference in
    let scheme = none_there c.args.reference.scheme (sym c.is_some.ensures ∙ c.if-is_some.false) in
    let authority = none_there c.args.reference.authority (sym c.is_some-2.ensures ∙ c.if-is_some-2.false) in
    normal_parts_are base.scheme base.authority base.path (remove_dot_segments (normal_text base.path)) (option_copied c.or.result) r.fragment based refl
    ∙ ap (λ q. normal_components (the_components base.scheme base.authority base.path q r.fragment)) (ap option_copied c.or.ensures ∙ or_is_query_or c.args.reference.query c.args.base.query)
    ∙ ap normal_components (sym (dots_of_base base r scheme authority (sym c.is_empty.ensures ∙ c.if-is_empty.true)))

pub returns-clause-normal : goal.returns-clause-normal
returns-clause-normal c = λ based.
    let base = components_of c.args.base in
    let r = components_of c.args.reference in
    let scheme = none_there c.args.reference.scheme (sym c.is_some.ensures ∙ c.if-is_some.false) in
    let authority = none_there c.args.reference.authority (sym c.is_some-2.ensures ∙ c.if-is_some-2.false) in
    normal_parts_are base.scheme base.authority (path_past base r.path) (written_path Normal c.path_past.result) r.query r.fragment based c.path_past.ensures.normal
    ∙ ap normal_components (sym (dots_past base r scheme authority (sym c.is_empty.ensures ∙ c.if-is_empty.false)))

pub returns-then-is_some-clause-plain : goal.returns-then-is_some-clause-plain
returns-then-is_some-clause-plain c = λ base reference. record { path = reference.path; query = reference.query; fragment = reference.fragment }

pub returns-then-is_some-2-clause-plain : goal.returns-then-is_some-2-clause-plain
returns-then-is_some-2-clause-plain c = λ base reference. record { path = reference.path; query = reference.query; fragment = reference.fragment }

pub returns-then-is_empty-clause-plain : goal.returns-then-is_empty-clause-plain
returns-then-is_empty-clause-plain c = λ base reference.
    record {
      path = base.path;
      query = subst (λ (o : Option (Bor (List ℕ))). if_there is_plain (option_copied o) ≡ true) (sym c.or.ensures) (or_there is_plain c.args.reference.query c.args.base.query reference.query base.query);
      fragment = reference.fragment;
    }

pub returns-clause-plain : goal.returns-clause-plain
returns-clause-plain c = λ base reference. record { path = c.path_past.ensures.plain base.path reference.path; query = reference.query; fragment = reference.fragment }
