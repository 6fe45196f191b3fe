use Rattle.std.proofs.Common.{◌≤◌, ◌<◌}
use Rattle.ref_fixes.proofs.diff.together.Given as goal

abbrev pub invariant-loop-part : goal.invariant-loop-part
invariant-loop-part l = (l.length ≤ l.part-index) × (0 < l.part-index → 0 < l.length)
