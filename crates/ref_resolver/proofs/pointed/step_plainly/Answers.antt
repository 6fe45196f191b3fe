use Rattle.std.proofs.Common.{sym}
use Rattle.ref_parts.proofs.EscapeLaws.{unescape_plain}
use Rattle.ref_resolver.proofs.pointed.step_plainly.Goals as goal

pub step_under-requires : goal.step_under-requires
step_under-requires c = record { key = sym (unescape_plain c.args.token.now (λ i less. c.requires.plain i 0 less)) }
