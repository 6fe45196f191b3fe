use Rattle.std.proofs.Common.{refl}
use Rattle.ref_draft.proofs.examples.scan.steps_of_the_scan.Goals as goal

pub returns : goal.returns
returns c = record { no_parts = refl; accepted = refl; refused = refl; past_nothing = refl; past_a_part = refl; unknown_as_2020 = refl; value_of_4 = refl; defs_of_4 = refl; items_of_7 = refl; items_of_7_at_no_object = refl; dependencies_of_2019 = refl; dependencies_of_2020 = refl; element_of_2019 = refl }
