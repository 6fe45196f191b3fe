use Rattle.std.proofs.Common.{refl, [], ◌∷◌, codes}
use Rattle.std.proofs.Common.{arith}
use Rattle.ref_draft.specs.declared.draft.Draft.TheVariants.{Draft202012}
use Rattle.ref_definitions.proofs.OnLiterals.{world_on_literals}
use Rattle.ref_definitions.specs.Wants.{Want, MetaSchema}
use Rattle.ref_definitions.specs.Preparing.{begun}
use Rattle.ref_definitions.proofs.Runs.{limited_run, refused_run}
use Rattle.ref_definitions.specs.Rows.{at, one, text, given_with, refers_to_b, b_refers_to_c}
use Rattle.ref_definitions.proofs.Closure.{outcome_laws}
use Rattle.ref_definitions.proofs.Retrieval.{want_of_b, want_of_c, first_retrieved}
use Rattle.ref_definitions.proofs.examples.outcomes.limits_and_refusals.Goals as goal

abbrev want_of_meta : Want
want_of_meta = record { cause = MetaSchema; uri = codes "http://a/meta" }

pub returns : goal.returns
unfolding world_on_literals
returns c = record {
  limit_of_none = limited_run (refers_to_b ∷ []) want_of_b [] begun refl refl;
  limit_of_one = limited_run (refers_to_b ∷ b_refers_to_c ∷ []) want_of_c [] (first_retrieved 1) refl refl;
  refused = refused_run 1 (refers_to_b ∷ b_refers_to_c ∷ []) want_of_c [] (codes "no document under this URI") (first_retrieved 2) (omega arith) refl refl (refl, refl);
  refused_by_default = refused_run 0 (refers_to_b ∷ []) want_of_b [] (codes "Default retriever does not fetch resources") begun (omega arith) refl refl refl;
  refused_meta_schema = refused_run 0 (at Draft202012 "http://a/r" (one "$schema" (text "http://a/meta#")) ∷ []) want_of_meta [] (codes "Default retriever does not fetch resources") begun (omega arith) refl refl refl;
  refused_relative_meta_schema = refused_run 0 (at Draft202012 "http://a/r" (one "$schema" (text "invalid")) ∷ []) (record { cause = MetaSchema; uri = codes "json-schema:///invalid" }) [] (codes "Default retriever does not fetch resources") begun (omega arith) refl refl refl;
  missing_meta_schema = refused_run 0 (at Draft202012 "http://a/r" (one "$schema" (text "http://a/meta#")) ∷ []) want_of_meta [] (codes "no document under this URI") begun (omega arith) refl refl (refl, refl);
  no_other_limit = λ outcome. let up = (outcome_laws (given_with 2)).used_up (codes "http://a/c") 1 outcome in omega (arith, up.is);
  as_a_reference = refl;
  as_a_meta_schema = refl;
}
