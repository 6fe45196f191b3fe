use Rattle.ref_vocabularies.specs.inner.Alike.{vocabulary_equivalence, set_equivalence}
use Rattle.ref_vocabularies.proofs.Growth.{vocabulary_eq-is, set_eq-is}
use Rattle.ref_vocabularies.proofs.laws.equals_are_the_same.Goals as goal

pub returns : goal.returns
returns c = record { vocabulary = vocabulary_eq-is; itself = vocabulary_equivalence.refl; set = set_eq-is; set_itself = set_equivalence.refl }
