use Rattle.std.proofs.Common.{refl}
use Rattle.ref_draft.proofs.examples.keywords.rows_of_drafts.Goals as goal

pub returns : goal.returns
returns c = record { one_of = refl; none_of = refl; values_of_4 = refl; arrays_of_4 = refl; maps_of_4 = refl; values_of_6 = refl; arrays_of_6 = refl; maps_of_6 = refl; values_of_7 = refl; arrays_of_7 = refl; maps_of_7 = refl; values_of_2019 = refl; arrays_of_2019 = refl; maps_of_2019 = refl; items_in_2020 = refl; no_additional_items_in_2020 = refl; values_of_2020 = refl; arrays_of_2020 = refl; maps_of_2020 = refl; row_of_unknown = refl; row_of_6 = refl }
