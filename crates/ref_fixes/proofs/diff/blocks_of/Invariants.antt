use Rattle.std.proofs.Common.{length}
use Rattle.ref_fixes.proofs.diff.blocks_of.Given as goal

abbrev pub decreases-parts : goal.decreases-parts
decreases-parts l = length l.rest
