use Rattle.std.proofs.Common.{◌≡◌, ◌++◌, map, take, drop}
use Rattle.ref_parts.specs.inner.SortedEntries.{slot_after}
use Rattle.ref_parts.proofs.table.move_after.Given as goal

abbrev pub invariant-loop-slot : goal.invariant-loop-slot
invariant-loop-slot g l = l.slots ≡ map (slot_after l.before) (take l.slot-index l.fn.slots) ++ drop l.slot-index l.fn.slots
