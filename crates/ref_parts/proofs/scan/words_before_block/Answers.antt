use Rattle.std.proofs.Common.{◌≡◌, ◌/◌, ◌*◌, [], get_or, length, take, drop, sym, ap, ◌∙◌, subst, arith}
use Rattle.std.specs.List.{concat}
use Rattle.ref_parts.specs.inner.Words.{IsPlain}
use Rattle.ref_parts.proofs.ScanLaws.{plain_block, chunk_at}
use Rattle.ref_parts.proofs.scan.words_before_block.Goals as goal

pub loop-block-preserved : goal.loop-block-preserved
loop-block-preserved c =
    let words = c.args.words.now in
    let i = c.loop-block.block-index in
    let here : get_or c.as_chunks.result.0.now i [] ≡ take 8 (drop (i * 8) words) =
    ap (λ l. get_or l i []) c.as_chunks.ensures.front ∙ chunk_at (length words / 8) words i (omega (arith, c.loop-block-test.true, c.as_chunks.ensures.front_len)) in
    record {
      passed = omega (arith, c.loop-block.invariant.passed);
      plain = plain_block words c.loop-block.passed c.loop-block.invariant.plain
          (subst (λ n. IsPlain (concat (take 8 (drop n words)))) (sym c.loop-block.invariant.passed) (subst (λ l. IsPlain (concat l)) here (c.block_marks.ensures c.if-block_marks-ne0.false)));
    }
