use Rattle.ref_draft.proofs.Unique.{children_are_there}
use Rattle.ref_draft.proofs.laws.children_stand_at_their_paths.Goals as goal

pub returns : goal.returns
returns c = record { law = children_are_there }
