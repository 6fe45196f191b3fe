use Rattle.std.proofs.Common.{refl}
use Rattle.ref_draft.proofs.examples.keywords.holdings_of_keywords.Goals as goal

pub returns : goal.returns
returns c = record { boolean_or_schema_in_4 = refl; value = refl; elements = refl; no_elements = refl; members = refl; items_before_2020 = refl; items_since_2020 = refl; dependencies_before_2020 = refl; dependencies_since_2020 = refl; no_keyword = refl; if_since_7 = refl; booleans_of_4 = refl; booleans_of_6 = refl; items = refl; dependencies = refl; another = refl; map_of_schemas = refl; dependencies_as_a_map = refl; no_map_since_2020 = refl; no_map_of_schemas = refl; left_out = refl; not_left_out = refl; not_left_out_in_7 = refl }
