use Rattle.serde_json.specs.View.{view}
use Rattle.ref_serve.proofs.PlacesTold.{opened_placed, stopped_placed}
use Rattle.ref_serve.proofs.answer.opened_reply.Goals as goal

pub returns-in-Ok-clause-reply : goal.returns-in-Ok-clause-reply
returns-in-Ok-clause-reply c = opened_placed c.args.state.now (view c.args.tree) c.in-Ok.opened c.in-Ok.ensures.opened

pub returns-in-Err-Because-clause-reply : goal.returns-in-Err-Because-clause-reply
returns-in-Err-Because-clause-reply c =
    stopped_placed c.args.state.now (view c.args.tree) (view c.in-Err-Because.error) c.placed_stop.result (rw c.in-Err-Because.field-0-is at c.in-Err-Because.ensures.opened)
    (c.placed_stop.ensures (view c.args.tree) c.requires)
