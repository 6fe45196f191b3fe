use Rattle.std.proofs.Common.{◌≡◌, None, take}
use Rattle.std.specs.Map.{lookup}
use Rattle.ref_parts.specs.inner.Slots.{pairs}
use Rattle.ref_parts.proofs.small_map.place_of.Given as goal

abbrev pub invariant-loop-place : goal.invariant-loop-place
invariant-loop-place g l = lookup (g.K.PartialEq.eq l.key) (pairs (take l.place l.slots)) ≡ None
