use Rattle.serde_json.specs.Data.{depth}
use Rattle.ref_definitions.proofs.Descent.{places_descend}
use Rattle.ref_definitions.proofs.laws.places_descend_from_the_root.Goals as goal

pub returns : goal.returns
returns c = record { law = λ d. places_descend d (depth d.tree) }
