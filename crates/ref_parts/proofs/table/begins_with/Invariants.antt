use Rattle.std.proofs.Common.{◌≤◌, ◌-◌}
use Rattle.ref_parts.proofs.table.begins_with.Given as goal

abbrev pub invariant-loop-at : goal.invariant-loop-at
invariant-loop-at l = l.at ≤ l.len

abbrev pub decreases-loop-at : goal.decreases-loop-at
decreases-loop-at l = l.len - l.at
