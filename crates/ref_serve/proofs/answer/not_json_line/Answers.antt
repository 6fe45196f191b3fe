use Rattle.ref_calls.specs.Errors.{not_json}
use Rattle.ref_calls.specs.Why.{why}
use Rattle.ref_serve.proofs.answer.not_json_line.Goals as goal

pub returns : goal.returns
returns c =
    c.error_text.ensures (not_json (why c.args.line.now) c.args.offset) (rw c.in_ok-reason.ensures.value at c.not_json.ensures)
