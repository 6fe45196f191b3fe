use Rattle.ref_draft.proofs.Beginnings.{all_end_within}
use Rattle.ref_draft.proofs.laws.paths_of_children_end_within.Goals as goal

pub returns : goal.returns
returns c = record { law = all_end_within }
