use Rattle.std.proofs.lemmas.Result.{IfOk-weaker}
use Rattle.json.specs.Json.{document}
use Rattle.ref_calls.proofs.Texts.{some_as_bool}
use Rattle.ref_calls.proofs.why.is_value.Goals as goal

pub returns : goal.returns
returns c = IfOk-weaker c.is_valid.result _ _ (λ valid iff. some_as_bool valid (document c.args.text.now) iff) c.is_valid.ensures.ok
