use Rattle.std.proofs.Common.{refl}
use Rattle.ref_draft.proofs.examples.keywords.known_keywords.Goals as goal

pub returns : goal.returns
returns c = record { id_in_4 = refl; id_in_6 = refl; content_encoding_in_6 = refl; if_in_6 = refl; prefix_items_in_7 = refl; prefix_items_in_2019 = refl; anchor_in_2019 = refl; prefix_items_in_2020 = refl; dynamic_ref_in_unknown = refl; thirty_in_all = refl; type_in_all = refl; const_in_all = refl; in_4_alone = refl; dollar_id_in_4_alone = refl; six_since_6 = refl; const_since_6 = refl; since_7 = refl; const_since_7 = refl; eleven_since_2019 = refl; max_contains_since_2019 = refl; since_2020 = refl; recursive_ref_since_2020 = refl; if_known_in_2019 = refl; id_known_in_2019 = refl }
