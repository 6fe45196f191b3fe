use Rattle.std.proofs.Common.{rules}
use Rattle.ref_vocabularies.proofs.vocabulary.Vocabulary.mask.Goals as goal

pub returns-in-Content : goal.returns-in-Content
returns-in-Content c = search rules
