use Rattle.std.proofs.Common.{◌≡◌, drop}
use Rattle.std.specs.Map.{lookup}
use Rattle.ref_parts.specs.inner.Slots.{pairs}
use Rattle.ref_parts.proofs.small_map.value_in.Given as goal

abbrev pub invariant-loop-slot : goal.invariant-loop-slot
invariant-loop-slot g l =
    lookup (g.Q.BorrowedKey.is_for l.key) (pairs (drop l.slot-index l.slots)) ≡ lookup (g.Q.BorrowedKey.is_for l.key) (pairs l.slots)
