use Rattle.ref_bundle_laws.proofs.LawFacts.{bundle_places}
use Rattle.ref_bundle_laws.proofs.laws.places_of_a_bundle.Goals as goal

pub returns : goal.returns
returns c = record { law = bundle_places }
