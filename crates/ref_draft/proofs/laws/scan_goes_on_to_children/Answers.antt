use Rattle.ref_draft.proofs.Agreement.{accepts_children}
use Rattle.ref_draft.proofs.laws.scan_goes_on_to_children.Goals as goal

pub returns : goal.returns
returns c = record { law = accepts_children }
