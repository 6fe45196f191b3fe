use Rattle.ref_changes.proofs.Law.{places_stay, references_are_kept}
use Rattle.ref_changes.proofs.laws.references_are_kept.Goals as goal

pub returns : goal.returns
returns c = record { places = places_stay; law = references_are_kept }
