use Rattle.std.proofs.Common.{refl}
use Rattle.ref_draft.proofs.examples.children.subresources_of_drafts.Goals as goal

pub returns : goal.returns
returns c = record { of_2019 = refl; of_7 = refl; of_2020 = refl; of_4 = refl; of_no_object = refl; given = refl; not_given = refl; keyword = refl; no_keyword = refl }
