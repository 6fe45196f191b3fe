use Rattle.std.proofs.Common.{refl}
use Rattle.ref_draft.proofs.examples.schemas.true_values.Goals as goal

pub returns : goal.returns
returns c = record { true_value = refl; false_value = refl; text_value = refl }
