use Rattle.ref_definitions.proofs.Located.{leads_to}
use Rattle.ref_definitions.proofs.laws.walks_agree.Goals as goal

pub returns : goal.returns
returns c = record { law = leads_to }
