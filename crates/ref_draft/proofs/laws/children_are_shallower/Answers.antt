use Rattle.ref_draft.proofs.Depth.{shallower}
use Rattle.ref_draft.proofs.laws.children_are_shallower.Goals as goal

pub returns : goal.returns
returns c = record { law = shallower }
