use Rattle.ref_definitions.specs.Closure.{given_by}
use Rattle.ref_definitions.proofs.Closure.{outcome_laws}
use Rattle.ref_definitions.proofs.laws.outcomes_of_retrieval.Goals as goal

pub returns : goal.returns
returns c = record { law = λ answers refuses limit draft parents documents. outcome_laws (given_by answers refuses limit draft parents documents) }
