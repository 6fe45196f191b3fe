use Rattle.std.proofs.Common.{arith}
use Rattle.std.proofs.lemmas.Grind.{common_steps}
use Rattle.ref_findings.proofs.walk.push_children.Goals as goal

pub loop-child-preserved : goal.loop-child-preserved
loop-child-preserved c = (grind (arith, common_steps), c.push_child.ensures.last)
