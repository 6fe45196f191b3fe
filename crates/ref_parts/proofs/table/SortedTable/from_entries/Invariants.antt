use Rattle.std.proofs.Common.{◌≡◌, ◌++◌, length}
use Rattle.std.specs.Vec.Iter.{into_iter_items, into_iter_len}
use Rattle.ref_parts.specs.Table.{entries_of}
use Rattle.ref_parts.proofs.table.SortedTable.from_entries.Given as goal

abbrev pub invariant-loop-first : goal.invariant-loop-first
invariant-loop-first g l =
    (l.collected ++ entries_of (into_iter_items l.first-iterator) ≡ entries_of l.fn.entries.items)
    × (into_iter_len l.first-iterator ≡ length (into_iter_items l.first-iterator))
