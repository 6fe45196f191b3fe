use Rattle.std.proofs.Common.{refl}
use Rattle.ref_vocabularies.proofs.examples.views.vocabularies_of_variants.Goals as goal

pub returns : goal.returns
returns c = record { known = refl; custom = refl }
