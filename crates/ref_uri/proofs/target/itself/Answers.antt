use Rattle.std.proofs.Common.{ℕ, List, ap}
use Rattle.ref_uri.specs.Normal.{normal_components}
use Rattle.ref_uri.specs.inner.Target.{components_of, written_path}
use Rattle.ref_uri.specs.declared.written.Form.TheVariants.{Normal}
use Rattle.ref_uri.proofs.UniqueLemmas.{tested}
use Rattle.ref_uri.proofs.TargetLemmas.{own_path, not_there}
use Rattle.ref_uri.proofs.target.itself.Goals as goal

pub returns-clause-value : goal.returns-clause-value
returns-clause-value c =
    let reference = components_of c.args.reference in
    ap (λ (path : List ℕ). record (normal_components reference) { path = path }) (own_path reference c.requires (written_path Normal c.own_path.result) c.own_path.ensures.with_scheme c.own_path.ensures.without_scheme)

pub returns-clause-target : goal.returns-clause-target
returns-clause-target c =
    let t = tested (components_of c.args.reference) c.requires in
    record {
      scheme_test = t.scheme_test;
      authority_test = t.authority_test;
      path_test = c.own_path.ensures.parts t.path_test;
      query_test = t.query_test;
      fragment_test = t.fragment_test;
      front_test = λ x e. absurd (not_there x e);
      rest_test = λ x e. absurd (not_there x e);
    }
