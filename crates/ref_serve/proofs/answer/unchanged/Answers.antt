use Rattle.std.proofs.Common.{refl}
use Rattle.serde_json.specs.View.{view}
use Rattle.ref_serve.proofs.Replying.{stopped}
use Rattle.ref_serve.proofs.answer.unchanged.Goals as goal

pub returns-in-Ok : goal.returns-in-Ok
returns-in-Ok c = (c.in-Ok.ensures, refl)

pub returns-in-Err : goal.returns-in-Err
returns-in-Err c = stopped c.args.call c.args.state.now (view c.args.tree.now) c.in-Err.stop c.in-Err.ensures
