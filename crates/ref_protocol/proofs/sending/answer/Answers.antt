use Rattle.ref_protocol.proofs.Sent.{answer_one}
use Rattle.ref_protocol.proofs.sending.answer.Goals as goal

pub returns : goal.returns
returns g c = record { once = answer_one c.args.id.now c.args.outcome _ _ c.in_ok-send_answer.ensures }
