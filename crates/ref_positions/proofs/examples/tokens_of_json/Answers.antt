use Rattle.ref_positions.proofs.Derivations.{are_found_in_json, nothing_found_in_json}
use Rattle.ref_positions.proofs.examples.tokens_of_json.Goals as goal

pub returns-clause-found : goal.returns-clause-found
returns-clause-found c = are_found_in_json

pub returns-clause-nothing_found : goal.returns-clause-nothing_found
returns-clause-nothing_found c = nothing_found_in_json
