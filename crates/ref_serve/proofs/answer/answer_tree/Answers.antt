use Rattle.std.proofs.lemmas.Result.{IfOk-weaker}
use Rattle.serde_json.specs.View.{view}
use Rattle.ref_serve.proofs.Replying.{failed}
use Rattle.ref_serve.proofs.answer.answer_tree.Goals as goal

pub returns-in-Err-Because-clause-answer : goal.returns-in-Err-Because-clause-answer
returns-in-Err-Because-clause-answer c =
    IfOk-weaker c.text_of-in-Err-Because.result _ _
    (λ text written. failed c.args.state.now _ c.args.line.now (view c.args.tree) _ (view c.in-Err-Because.error) _ c.in_ok-id.ensures c.reply_to.ensures.same (rw c.in-Err-Because.field-0-is at c.in-Err-Because.ensures.reply) written)
    c.text_of-in-Err-Because.ensures
