use Rattle.ref_draft.proofs.Scanning.{scan_accepts}
use Rattle.ref_draft.proofs.laws.scan_is_accepted.Goals as goal

pub returns : goal.returns
returns c = record { law = λ d value parts. scan_accepts d value parts }
