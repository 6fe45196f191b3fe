use Rattle.std.proofs.Common.{length}
use Rattle.ref_paths.specs.inner.Link.{path_of}
use Rattle.ref_paths.proofs.path.JsonPointerNode.drop.Given as goal

abbrev pub decreases-loop-rest : goal.decreases-loop-rest
decreases-loop-rest l = length (path_of l.rest)
