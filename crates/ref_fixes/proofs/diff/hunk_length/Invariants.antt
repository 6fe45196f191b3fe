use Rattle.std.proofs.Common.{◌≤◌, ◌<◌}
use Rattle.ref_fixes.proofs.diff.hunk_length.Given as goal

abbrev pub invariant-loop-block : goal.invariant-loop-block
invariant-loop-block l = (l.length ≤ l.block-index) × (0 < l.block-index → 0 < l.length)
