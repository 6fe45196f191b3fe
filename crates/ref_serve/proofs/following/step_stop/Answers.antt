use Rattle.std.proofs.lemmas.Bool.{false≢true}
use Rattle.ref_serve.proofs.Steps.{step_error_is}
use Rattle.ref_serve.proofs.following.step_stop.Goals as goal

pub returns-in-Ok : goal.returns-in-Ok
returns-in-Ok c =
    λ whole says. step_error_is whole c.args.number c.args.error.now c.in-Ok.object says (λ m. false≢true (c.in-Ok.ensures.memory m)) c.in-Ok.ensures.error
