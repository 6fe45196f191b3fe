use Rattle.std.proofs.Common.{refl, [], ◌∷◌, codes}
use Rattle.std.proofs.Common.{arith}
use Rattle.ref_draft.specs.declared.draft.Draft.TheVariants.{Draft7, Draft202012}
use Rattle.ref_uri.specs.Targets.{parse_refusal}
use Rattle.ref_definitions.proofs.OnLiterals.{world_on_literals}
use Rattle.ref_definitions.specs.Preparing.{begun}
use Rattle.ref_definitions.proofs.Runs.{retrieved_run, faulty_run}
use Rattle.ref_definitions.specs.Rows.{at, one, two, text, refers_to_b}
use Rattle.ref_definitions.proofs.Retrieval.{want_of_b}
use Rattle.ref_definitions.proofs.examples.outcomes.faulty_runs.Goals as goal

pub returns : goal.returns
unfolding world_on_literals
returns c = record {
  identifier = faulty_run 0 (at Draft202012 "http://a/r" (one "properties" (one "x" (two "$id" (text "a b") "$ref" (text "c d")))) ∷ []) (parse_refusal (codes "a b")) [] begun (omega arith) refl;
  hidden_identifier = faulty_run 0 (at Draft7 "http://a/r" (one "properties" (one "x" (two "$id" (text "a b") "$ref" (text "c d")))) ∷ []) (parse_refusal (codes "c d")) [] begun (omega arith) refl;
  of_a_retrieved_document = faulty_run 1 (refers_to_b ∷ at Draft202012 "http://a/b" (one "$ref" (text "c d")) ∷ []) (parse_refusal (codes "c d")) [] (retrieved_run 0 (refers_to_b ∷ []) want_of_b [] (one "$ref" (text "c d")) begun refl refl refl) (omega arith) refl;
}
