use Rattle.std.proofs.Common.{◌≡◌, take}
use Rattle.std.specs.List.{concat}
use Rattle.ref_parts.specs.inner.Words.{IsPlain}
use Rattle.ref_parts.proofs.scan.block_marks.Given as goal

abbrev pub invariant-loop-word : goal.invariant-loop-word
invariant-loop-word l = l.all ≡ 0 → IsPlain (concat (take l.word-index l.block))
