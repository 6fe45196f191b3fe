use Rattle.std.proofs.Common.{refl}
use Rattle.ref_draft.proofs.examples.anchors.anchors_of_keywords.Goals as goal

pub returns : goal.returns
returns c = record { after_a_hash = refl; after_a_hash_alone = refl; after_no_hash = refl; identifier_of_4 = refl; no_anchor_in_an_identifier = refl; plain = refl; dynamic = refl; none = refl; plain_first = refl; dynamic_alone = refl }
