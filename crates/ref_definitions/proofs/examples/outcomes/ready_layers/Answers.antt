use Rattle.std.proofs.Common.{refl, [], ◌∷◌, codes}
use Rattle.std.proofs.Common.{arith}
use Rattle.ref_draft.specs.declared.draft.Draft.TheVariants.{Draft202012}
use Rattle.ref_definitions.proofs.OnLiterals.{world_on_literals}
use Rattle.ref_definitions.specs.World.{Layer}
use Rattle.ref_definitions.specs.Wants.{Want, MetaSchema}
use Rattle.ref_definitions.specs.Preparing.{begun}
use Rattle.ref_definitions.proofs.Runs.{retrieved_run, ready_run}
use Rattle.ref_definitions.specs.Rows.{at, one, two, text, yes, empty, refers_to_b, b_refers_to_c, c_is_true}
use Rattle.ref_definitions.proofs.Retrieval.{want_of_b, second_retrieved}
use Rattle.ref_definitions.proofs.examples.outcomes.ready_layers.Goals as goal

abbrev want_of_meta : Want
want_of_meta = record { cause = MetaSchema; uri = codes "http://a/meta" }

abbrev names_meta : Layer
names_meta = at Draft202012 "http://a/r" (one "$schema" (text "http://a/meta#")) ∷ []

pub returns : goal.returns
unfolding world_on_literals
returns c = record {
  nothing_wanted = ready_run 0 (at Draft202012 "http://a/r" empty ∷ []) begun (omega arith) refl refl;
  own_reference = ready_run 0 (at Draft202012 "http://a/r" (two "$id" (text "#x") "$ref" (text "")) ∷ []) begun (omega arith) refl refl;
  both_retrieved = ready_run 2 (refers_to_b ∷ b_refers_to_c ∷ c_is_true ∷ []) second_retrieved (omega arith) refl refl;
  of_a_parent = ready_run 0 (at Draft202012 "http://a/r" (one "$ref" (text "http://json-schema.org/draft-07/schema#")) ∷ []) begun (omega arith) refl refl;
  retrieved_with_an_identifier = ready_run 1 (refers_to_b ∷ at Draft202012 "http://a/b" (one "$id" (text "http://o/")) ∷ []) (retrieved_run 0 (refers_to_b ∷ []) want_of_b [] (one "$id" (text "http://o/")) begun refl refl refl) (omega arith) refl refl;
  meta_schema_retrieved = ready_run 1 (at Draft202012 "http://a/r" (one "$schema" (text "http://a/meta#")) ∷ at Draft202012 "http://a/meta" yes ∷ []) (retrieved_run 0 names_meta want_of_meta [] yes begun refl refl refl) (omega arith) refl refl;
}
