use Rattle.std.proofs.Common.{refl}
use Rattle.ref_draft.proofs.laws.names_are_read_back.Goals as goal

pub returns : goal.returns
returns c = record { rows = (refl, refl, refl, refl, refl, refl, refl, refl) }
