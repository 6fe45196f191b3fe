use Rattle.std.proofs.Common.{◌≡◌, ◌++◌, map, take, drop}
use Rattle.ref_parts.specs.Table.{ChangesBy}
use Rattle.ref_parts.specs.inner.SortedEntries.{place_of, slot_with_value}
use Rattle.ref_parts.proofs.table.change_each.Given as goal

abbrev pub invariant-loop-slot : goal.invariant-loop-slot
invariant-loop-slot g l =
    goal.F-IsAlwaysCallable g l.change
    × (map place_of l.slots ≡ map place_of l.fn.slots)
    × ((h : g.row.V.Denot → g.row.V.Denot) → ChangesBy g.F.FnMut l.fn.change h
    → (l.change ≡ l.fn.change) × (l.slots ≡ map (slot_with_value h) (take l.slot-index l.fn.slots) ++ drop l.slot-index l.fn.slots))
