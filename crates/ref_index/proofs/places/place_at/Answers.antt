use Rattle.std.proofs.Common.{rules}
use Rattle.ref_index.proofs.places.place_at.Goals as goal

pub returns : goal.returns
returns c = search rules
