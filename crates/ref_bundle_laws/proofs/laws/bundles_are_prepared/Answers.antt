use Rattle.ref_bundle_laws.proofs.LawPrepared.{no_fault, no_open_want}
use Rattle.ref_bundle_laws.proofs.laws.bundles_are_prepared.Goals as goal

pub returns : goal.returns
returns c = record { faults = no_fault; wants = no_open_want }
