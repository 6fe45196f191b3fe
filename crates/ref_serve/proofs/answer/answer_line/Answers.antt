use Rattle.std.proofs.Common.{None, Some, refl, sym}
use Rattle.std.proofs.lemmas.Result.{IfOk-weaker}
use Rattle.serde_json.specs.View.{view}
use Rattle.ref_serve.proofs.Replying.{answered}
use Rattle.ref_serve.proofs.answer.answer_line.Goals as goal

pub returns-in-Ok-clause-answer : goal.returns-in-Ok-clause-answer
returns-in-Ok-clause-answer c =
    IfOk-weaker c.answer_tree.result _ _ (λ text given. answered _ _ _ _ (Some (view c.in-Ok.tree)) (sym c.in-Ok.ensures.tree) given) c.answer_tree.ensures.answer

pub returns-in-Err-Because-clause-answer : goal.returns-in-Err-Because-clause-answer
returns-in-Err-Because-clause-answer c =
    let place = rw c.in-Err-Because.field-0-is at c.in-Err-Because.ensures.not_json in
    IfOk-weaker c.not_json_line.result _ _ (λ text written. answered _ _ _ _ None (sym place.0) ((c.in-Err-Because.offset, place.1, written), refl)) c.not_json_line.ensures
