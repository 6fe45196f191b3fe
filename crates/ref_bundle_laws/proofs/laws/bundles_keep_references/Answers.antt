use Rattle.ref_bundle_laws.proofs.LawLookups.{keeps_references, keeps_further}
use Rattle.ref_bundle_laws.proofs.laws.bundles_keep_references.Goals as goal

pub returns : goal.returns
returns c = record { law = keeps_references; further = keeps_further }
