use Rattle.std.proofs.Common.{◌+◌, take}
use Rattle.std.specs.List.{concat}
use Rattle.ref_parts.specs.inner.Words.{IsPlain}
use Rattle.ref_parts.proofs.scan.first_in_words.Given as goal

abbrev pub invariant-loop-index : goal.invariant-loop-index
invariant-loop-index l = IsPlain (concat (take (l.passed + l.index) l.words))
