use Rattle.std.proofs.Common.{refl}
use Rattle.ref_draft.proofs.examples.anchors.anchors_of_drafts.Goals as goal

pub returns : goal.returns
returns c = record { in_7_beside_a_reference = refl; in_4 = refl; not_in_6 = refl; in_2019 = refl; in_2020 = refl; in_unknown = refl; no_text = refl }
