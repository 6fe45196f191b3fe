use Rattle.serde_json.specs.View.{view}
use Rattle.ref_serve.proofs.TextsRead.{opened_read, unopened}
use Rattle.ref_serve.proofs.opening.open_call.Goals as goal

pub returns-in-Ok-clause-opened : goal.returns-in-Ok-clause-opened
returns-in-Ok-clause-opened c = opened_read c.args.state.now (view c.args.tree) (view c.in-Ok.read) c.open.result c.in-Ok.ensures c.open.ensures.opened

pub returns-in-Err-clause-opened : goal.returns-in-Err-clause-opened
returns-in-Err-clause-opened c = unopened c.args.state.now (view c.args.tree) c.in-Err.stop c.in-Err.ensures
