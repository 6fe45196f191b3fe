use Rattle.ref_definitions.proofs.References.{references_are_retrieved}
use Rattle.ref_definitions.proofs.laws.references_are_retrieved.Goals as goal

pub returns : goal.returns
returns c = record { law = references_are_retrieved }
