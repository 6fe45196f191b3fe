use Rattle.std.proofs.Common.{◌≡◌, ◌++◌, map, take, drop, reverse}
use Rattle.ref_parts.specs.inner.SortedEntries.{slot_with_word}
use Rattle.ref_parts.proofs.table.number_backwards.Given as goal

abbrev pub invariant-loop-slot : goal.invariant-loop-slot
invariant-loop-slot g l = l.slots ≡ map (slot_with_word l.texts l.shared) (take l.slot-index (reverse l.fn.slots)) ++ drop l.slot-index (reverse l.fn.slots)
