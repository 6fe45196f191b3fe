use Rattle.ref_positions.proofs.Derivations.{not_counted, are_found, nothing_found}
use Rattle.ref_positions.proofs.examples.found_in_events.Goals as goal

pub returns-clause-nothing_counted : goal.returns-clause-nothing_counted
returns-clause-nothing_counted c = not_counted

pub returns-clause-found : goal.returns-clause-found
returns-clause-found c = are_found

pub returns-clause-nothing_found : goal.returns-clause-nothing_found
returns-clause-nothing_found c = nothing_found
