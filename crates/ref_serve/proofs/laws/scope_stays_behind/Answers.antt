use Rattle.ref_serve.proofs.Scopes.{stays_behind, same_place}
use Rattle.ref_serve.proofs.laws.scope_stays_behind.Goals as goal

pub returns : goal.returns
returns c = record { law = stays_behind; place = same_place }
