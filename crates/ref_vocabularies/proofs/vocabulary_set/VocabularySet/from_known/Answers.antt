use Rattle.std.proofs.Common.{◌<◌, bit_and, ap, arith}
use Rattle.std.proofs.lemmas.Nat.{and_le_r}
use Rattle.std.specs.List.Sorted.{IsStrictlySortedBy}
use Rattle.ref_vocabularies.specs.Vocabularies.{of_known}
use Rattle.ref_vocabularies.proofs.Bits.{known_of-and}
use Rattle.ref_vocabularies.proofs.vocabulary_set.VocabularySet.from_known.Goals as goal

pub invariant_of-result : goal.invariant_of-result
unfolding IsStrictlySortedBy
invariant_of-result c =
    let small : bit_and c.args.known 511 < 512 = omega (arith, and_le_r c.args.known 511) in
    (small, tt)

pub returns : goal.returns
returns c = record { value = ap of_known (known_of-and c.args.known) }
