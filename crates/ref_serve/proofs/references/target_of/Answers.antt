use Rattle.std.proofs.Common.{Ok, Err, refl}
use Rattle.serde_json.specs.View.{view}
use Rattle.ref_serve.specs.Results.{IsLookedUp}
use Rattle.ref_serve.proofs.references.target_of.Goals as goal

pub returns-in-Ok : goal.returns-in-Ok
unfolding IsLookedUp
returns-in-Ok c = (Ok (view c.in-Ok.target), c.in-Ok.ensures, refl)

pub returns-in-Err-Because : goal.returns-in-Err-Because
unfolding IsLookedUp
returns-in-Err-Because c = (Err (view c.in-Err-Because.error), (rw c.in-Err-Because.field-0-is at c.in-Err-Because.ensures), refl)
