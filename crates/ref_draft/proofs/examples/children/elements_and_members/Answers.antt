use Rattle.std.proofs.Common.{refl}
use Rattle.ref_draft.proofs.examples.children.elements_and_members.Goals as goal

pub returns : goal.returns
returns c = record { whole_value = refl; whole_array = refl; counted_on = refl; no_elements = refl; by_keys = refl; no_members = refl; elements_of_an_array = refl; elements_of_no_array = refl; members_of_an_object = refl; members_of_no_object = refl; object = refl; array = refl; with_object = refl; with_boolean = refl }
