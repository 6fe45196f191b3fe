use Rattle.std.proofs.Common.{rules}
use Rattle.ref_vocabularies.proofs.vocabulary_set.VocabularySetClone.clone.Goals as goal

pub returns-in_default : goal.returns-in_default
returns-in_default c = search rules
