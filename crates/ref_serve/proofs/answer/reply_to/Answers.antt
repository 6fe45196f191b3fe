use Rattle.std.proofs.Common.{refl, rules}
use Rattle.serde_json.specs.View.{view}
use Rattle.ref_calls.specs.Calls.{call_of}
use Rattle.ref_serve.proofs.Replying.{replies}
use Rattle.ref_serve.proofs.answer.reply_to.Goals as goal

pub returns-in_default : goal.returns-in_default
returns-in_default c = record {
  same = refl;
  reply = replies c.in_ok-call.call c.args.state.now (view c.args.tree) (call_of (view c.args.tree)) c.unchanged.result c.in_ok-call.ensures (search rules) (search rules) (search rules) (search rules) c.unchanged.ensures;
}
