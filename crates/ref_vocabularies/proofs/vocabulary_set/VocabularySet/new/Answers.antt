use Rattle.std.proofs.Common.{lit<}
use Rattle.std.specs.List.Sorted.{IsStrictlySortedBy}
use Rattle.ref_vocabularies.proofs.vocabulary_set.VocabularySet.new.Goals as goal

pub invariant_of-result : goal.invariant_of-result
unfolding IsStrictlySortedBy
invariant_of-result c = (lit< tt, tt)
