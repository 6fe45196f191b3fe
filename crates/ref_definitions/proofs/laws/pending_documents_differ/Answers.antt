use Rattle.ref_definitions.proofs.Pending.{pending_differ}
use Rattle.ref_definitions.proofs.laws.pending_documents_differ.Goals as goal

pub returns : goal.returns
returns c = record { law = pending_differ }
