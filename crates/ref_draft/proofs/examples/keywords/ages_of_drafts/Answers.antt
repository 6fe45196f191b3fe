use Rattle.std.proofs.Common.{refl}
use Rattle.ref_draft.proofs.examples.keywords.ages_of_drafts.Goals as goal

pub returns : goal.returns
returns c = record { before_2020 = refl; not_before_2020 = refl; unknown_not_before_2020 = refl; before_2019 = refl; not_before_2019 = refl; unknown_draft = refl; known_draft = refl; newest_draft = refl; identifier_of_4 = refl; identifier_of_6 = refl; first = refl; last = refl }
