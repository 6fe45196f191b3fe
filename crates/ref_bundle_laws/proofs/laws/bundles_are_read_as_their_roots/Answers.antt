use Rattle.ref_bundle_laws.proofs.LawReader.{read_as_its_root}
use Rattle.ref_bundle_laws.proofs.laws.bundles_are_read_as_their_roots.Goals as goal

pub returns : goal.returns
returns c = record { law = read_as_its_root }
