use Rattle.std.proofs.Common.{arith}
use Rattle.std.proofs.lemmas.Nat.{le_or_l, le_or_r}
use Rattle.ref_parts.proofs.ScanLaws.{plain_more, plain_word}
use Rattle.ref_parts.proofs.scan.block_marks.Goals as goal

pub loop-word-preserved : goal.loop-word-preserved
loop-word-preserved c = λ none.
    let before = le_or_l c.loop-word.all c.marks-all.result in
    let here = le_or_r c.loop-word.all c.marks-all.result in
    plain_more c.args.block.now c.loop-word.word-index (omega arith) (c.loop-word.invariant (omega (arith, none, before))) (plain_word _ c.marks-all.result c.marks-all.ensures (omega (arith, none, here)))
