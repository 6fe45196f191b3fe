use Rattle.ref_vocabularies.proofs.Variants.{one_to_one, onto}
use Rattle.ref_vocabularies.proofs.laws.variants_are_vocabularies.Goals as goal

pub returns : goal.returns
returns c = record { one_to_one = one_to_one; onto = onto }
