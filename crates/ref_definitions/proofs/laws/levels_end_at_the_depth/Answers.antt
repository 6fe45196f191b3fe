use Rattle.ref_definitions.proofs.Levels.{places_end}
use Rattle.ref_definitions.proofs.laws.levels_end_at_the_depth.Goals as goal

pub returns : goal.returns
returns c = record { law = places_end }
