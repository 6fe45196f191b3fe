use Rattle.ref_draft.proofs.Scanning.{stops_within}
use Rattle.ref_draft.proofs.laws.scan_stops_at_a_child_keyword.Goals as goal

pub returns : goal.returns
returns c = record { law = stops_within }
