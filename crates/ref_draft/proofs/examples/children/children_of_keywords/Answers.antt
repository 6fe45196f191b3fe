use Rattle.std.proofs.Common.{refl}
use Rattle.ref_draft.proofs.examples.children.children_of_keywords.Goals as goal

pub returns : goal.returns
returns c = record { value = refl; boolean_in_place_of_an_object = refl; an_object = refl; each_element = refl; no_array = refl; every_member = refl; no_object = refl; elements_of_items = refl; value_of_items = refl; objects_of_dependencies = refl; nothing = refl }
