use Rattle.std.proofs.Common.{refl}
use Rattle.ref_draft.proofs.examples.schemas.drafts_of_schemas.Goals as goal

pub returns : goal.returns
returns c = record { without_version = refl; of_2020 = refl; of_2019 = refl; of_7 = refl; of_6 = refl; of_4 = refl; of_another_text = refl; of_a_longer_text = refl; of_no_text = refl; of_an_empty_object = refl; of_no_object = refl }
