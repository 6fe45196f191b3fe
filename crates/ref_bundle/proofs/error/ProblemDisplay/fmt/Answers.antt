use Rattle.std.proofs.Common.{map}
use Rattle.std.proofs.Output.{has_written_of_eq}
use Rattle.ref_paths.specs.Segment.{part_of}
use Rattle.ref_bundle.proofs.Texts.{shared, replaced, shadowed, added}
use Rattle.ref_bundle.proofs.error.ProblemDisplay.fmt.Goals as goal

pub returns-in-SharedUri-clause-writes : goal.returns-in-SharedUri-clause-writes
returns-in-SharedUri-clause-writes g c plain ok =
    rw c.in-SharedUri.is (has_written_of_eq _ _ _ _ _ (shared _ _ (map part_of c.in-SharedUri.path.items)) (c.write-in-SharedUri.ensures.writes plain ok))

pub returns-in-ReplacedUri-clause-writes : goal.returns-in-ReplacedUri-clause-writes
returns-in-ReplacedUri-clause-writes g c plain ok =
    rw c.in-ReplacedUri.is (has_written_of_eq _ _ _ _ _ (replaced _ _) (c.write-in-ReplacedUri.ensures.writes plain ok))

pub returns-in-ShadowedUri-clause-writes : goal.returns-in-ShadowedUri-clause-writes
returns-in-ShadowedUri-clause-writes g c plain ok =
    rw c.in-ShadowedUri.is (has_written_of_eq _ _ _ _ _ (shadowed _ _ _ (map part_of c.in-ShadowedUri.path.items)) (c.write-in-ShadowedUri.ensures.writes plain ok))

pub returns-in-AddedMember-clause-writes : goal.returns-in-AddedMember-clause-writes
returns-in-AddedMember-clause-writes g c plain ok =
    rw c.in-AddedMember.is (has_written_of_eq _ _ _ _ _ (added _ _) (c.write-in-AddedMember.ensures.writes plain ok))
