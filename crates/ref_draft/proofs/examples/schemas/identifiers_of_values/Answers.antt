use Rattle.std.proofs.Common.{refl}
use Rattle.ref_draft.proofs.examples.schemas.identifiers_of_values.Goals as goal

pub returns : goal.returns
returns c = record { trailing_hashes = refl; of_4 = refl; dollar_id_in_4 = refl; id_in_6 = refl; beside_a_reference = refl; beside_a_reference_in_2019 = refl; an_anchor = refl; a_fragment = refl; no_text = refl; a_hash_alone = refl; hidden_by_a_reference = refl; hidden_by_a_hash = refl; not_hidden = refl; not_hidden_in_2019 = refl; hash_in_front = refl; hash_after = refl; text_of_a_key = refl; no_text_of_a_key = refl; no_key = refl }
