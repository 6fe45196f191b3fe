use Rattle.std.proofs.Common.{◌≡◌, IfOk, string_bytes, subst}
use Rattle.ref_parts.proofs.encoded.EncodedString.decode.Goals as goal

pub returns : goal.returns
returns c = record { value = subst (λ now. IfOk c.without_escapes.result (λ text. string_bytes text ≡ now)) c.self.view_is c.without_escapes.ensures }
