use Rattle.ref_protocol.proofs.Sent.{notes_one}
use Rattle.ref_protocol.proofs.sending.note.Goals as goal

pub returns : goal.returns
returns g c = record { notes = notes_one _ _ c.args.params.now c.in_ok-send_note.ensures }
