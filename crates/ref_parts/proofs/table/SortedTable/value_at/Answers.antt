use Rattle.std.proofs.Common.{sym, ap, ◌∙◌, arith}
use Rattle.ref_parts.specs.Table.{last_value}
use Rattle.ref_parts.proofs.ProbeLaws.{found_at}
use Rattle.ref_parts.specs.inner.SortedEntries.{word_at}
use Rattle.ref_parts.proofs.table.SortedTable.value_at.Goals as goal

pub returns-then-is_entry : goal.returns-then-is_entry
returns-then-is_entry g c =
    let kept = c.self.inside.kept.items in
    let first = c.args.first.now in
    let second = c.args.second.now in
    let word = c.word_at-word.ensures ∙ ap (word_at c.self.inside.shared) c.as_bytes.ensures.value in
    record { value = ap (last_value first second) (sym c.self.view_is) ∙ found_at c.self.inside.texts.items c.self.inside.shared c.self.inside.entered.value.items kept c.self.invariant.0 first second _ word c.args.place c.index-slot.result.now (omega arith) c.index-slot.ensures (c.is_entry.ensures c.if-is_entry.true) }
