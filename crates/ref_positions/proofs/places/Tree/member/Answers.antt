use Rattle.ref_positions.proofs.Paths.{entry_is}
use Rattle.ref_positions.proofs.places.Tree.member.Goals as goal

pub returns-in-Some-clause-place : goal.returns-in-Some-clause-place
returns-in-Some-clause-place c = entry_is _ _ _ _ c.in-Some.ensures.some
