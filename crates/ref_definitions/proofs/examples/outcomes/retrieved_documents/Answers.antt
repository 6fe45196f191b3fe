use Rattle.std.proofs.Common.{Ok, Err, refl, [], ◌∷◌, codes, arith}
use Rattle.ref_draft.specs.declared.draft.Draft.TheVariants.{Draft202012}
use Rattle.ref_uri.specs.Targets.{parse_refusal}
use Rattle.ref_definitions.specs.Fault.{InvalidUri}
use Rattle.ref_definitions.specs.World.{Layer}
use Rattle.ref_definitions.specs.Wants.{Reference}
use Rattle.ref_definitions.specs.Preparing.{begun}
use Rattle.ref_definitions.proofs.Runs.{limited_run, ready_run}
use Rattle.ref_definitions.specs.Closure.{IsRetrieved}
use Rattle.ref_definitions.specs.Rows.{at, one, text, yes, given_documents, given_alone, given_with, has_b_and_c, refers_to_b, b_refers_to_c, c_is_true}
use Rattle.ref_definitions.proofs.OnLiterals.{world_on_literals}
use Rattle.ref_definitions.proofs.Closure.{documents_alone, first_fault_alone, outcome_laws}
use Rattle.ref_definitions.proofs.Retrieval.{want_of_b, want_of_c, first_retrieved, second_retrieved}
use Rattle.ref_definitions.proofs.examples.outcomes.retrieved_documents.Goals as goal

first : IsRetrieved (given_with 2) (refers_to_b ∷ []) b_refers_to_c
unfolding world_on_literals
first = record { cause = Reference; tree = one "$ref" (text "c"); wanted = (0, omega arith, refl); no_place = refl; answered = refl; is = refl }

first_of_two : IsRetrieved (given_documents has_b_and_c 2 (refers_to_b ∷ [])) (refers_to_b ∷ []) b_refers_to_c
unfolding world_on_literals
first_of_two = record { cause = Reference; tree = one "$ref" (text "c"); wanted = (0, omega arith, refl); no_place = refl; answered = refl; is = refl }

second : IsRetrieved (given_documents has_b_and_c 2 (refers_to_b ∷ [])) (refers_to_b ∷ b_refers_to_c ∷ []) c_is_true
unfolding world_on_literals
second = record { cause = Reference; tree = yes; wanted = (1, omega arith, refl); no_place = refl; answered = refl; is = refl }

twice : IsRetrieved (given_with 2) (refers_to_b ∷ b_refers_to_c ∷ []) b_refers_to_c → ⊥
unfolding world_on_literals
twice is = cc

abbrev faulty_alone : Layer
faulty_alone = at Draft202012 "http://a/r" (one "$ref" (text "c d")) ∷ []

pub returns : goal.returns
unfolding world_on_literals
returns c = record {
  after_the_first = first;
  after_the_second = second;
  not_twice = twice;
  not_both = λ each. twice each.1.0;
  each = (first_of_two, (second, tt));
  ready_at_once = (outcome_laws (given_alone (c_is_true ∷ []))).ready (c_is_true ∷ []) (ready_run 0 (c_is_true ∷ []) begun (omega arith) refl refl);
  ready_after_two = (outcome_laws (given_documents has_b_and_c 2 (refers_to_b ∷ []))).ready (refers_to_b ∷ b_refers_to_c ∷ c_is_true ∷ []) (ready_run 2 (refers_to_b ∷ b_refers_to_c ∷ c_is_true ∷ []) second_retrieved (omega arith) refl refl);
  not_ready = λ is. let none = is.no_want in cc;
  used_up = (outcome_laws (given_with 1)).used_up (codes "http://a/c") 1 (limited_run (refers_to_b ∷ b_refers_to_c ∷ []) want_of_c [] (first_retrieved 1) refl refl);
  used_up_at_once = (outcome_laws (given_with 0)).used_up (codes "http://a/b") 0 (limited_run (refers_to_b ∷ []) want_of_b [] begun refl refl);
  not_used_up = λ is. omega (arith, is.is);
  documents_alone = documents_alone (given_alone (c_is_true ∷ [])) (Ok (c_is_true ∷ []));
  no_other_documents = λ outcome. let same = documents_alone (given_alone (c_is_true ∷ [])) (Ok []) refl refl outcome in cc;
  first_fault_alone = first_fault_alone (given_alone faulty_alone) (Err (InvalidUri (parse_refusal (codes "c d"))));
  no_other_fault = λ outcome. let same = first_fault_alone (given_alone faulty_alone) (Ok faulty_alone) (parse_refusal (codes "c d")) [] refl outcome in cc;
}
