use Rattle.std.proofs.Common.{◌≡◌, ◌<◌, ◌++◌, length, reverse}
use Rattle.std.specs.HashMap.{spare}
use Rattle.ref_parts.specs.inner.Slots.{pairs}
use Rattle.ref_parts.proofs.small_map.hashed.Given as goal

abbrev pub invariant-loop-slot : goal.invariant-loop-slot
invariant-loop-slot g l = record {
  all : l.map.entries ++ pairs (reverse l.slots.items) ≡ pairs l.fn.slots.items;
  room : length l.slots.items < spare l.map;
}

abbrev pub decreases-loop-slot : goal.decreases-loop-slot
decreases-loop-slot g l = length l.slots.items
