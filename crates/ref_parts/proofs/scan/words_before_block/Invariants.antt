use Rattle.std.proofs.Common.{◌≡◌, ◌*◌, take}
use Rattle.std.specs.List.{concat}
use Rattle.ref_parts.specs.inner.Words.{IsPlain}
use Rattle.ref_parts.proofs.scan.words_before_block.Given as goal

abbrev pub invariant-loop-block : goal.invariant-loop-block
invariant-loop-block l = record {
  passed : l.passed ≡ l.block-index * 8;
  plain : IsPlain (concat (take l.passed l.words));
}
