use Rattle.std.proofs.Common.{length}
use Rattle.ref_fixes.proofs.diff.unified.Given as goal

abbrev pub decreases-blocks-2 : goal.decreases-blocks-2
decreases-blocks-2 l = length l.rest
