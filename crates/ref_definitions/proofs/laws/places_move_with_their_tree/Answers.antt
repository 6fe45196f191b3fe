use Rattle.ref_definitions.proofs.Moving.{below_moved}
use Rattle.ref_definitions.proofs.laws.places_move_with_their_tree.Goals as goal

pub returns : goal.returns
returns c = record { law = below_moved }
