use Rattle.ref_definitions.proofs.Outcomes.{default_is_determined, function_is_determined, map_is_determined, one_outcome}
use Rattle.ref_definitions.proofs.laws.known_answers_have_one_outcome.Goals as goal

pub returns : goal.returns
returns c = record {
  of_a_function = λ answers limit draft parents documents. one_outcome _ (function_is_determined answers);
  of_a_map = λ pairs limit draft parents documents. one_outcome _ (map_is_determined pairs);
  of_the_default = λ limit draft parents documents. one_outcome _ default_is_determined;
}
