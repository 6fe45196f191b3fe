use Rattle.std.proofs.Common.{◌++◌, drop, ap, ◌∙◌}
use Rattle.ref_parts.specs.inner.SortedEntries.{zeros}
use Rattle.ref_parts.proofs.SlotLaws.{filled}
use Rattle.ref_parts.proofs.table.first_eight.Goals as goal

pub returns : goal.returns
returns c =
    ap (λ l. l ++ drop c.min-len.result zeros) c.copy_from_slice.ensures.after ∙ filled c.min-len.result c.args.bytes.now c.min-len.ensures
