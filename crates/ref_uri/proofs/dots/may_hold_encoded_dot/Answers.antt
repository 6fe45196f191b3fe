use Rattle.std.proofs.Common.{arith}
use Rattle.ref_uri.proofs.PlainDots.{lacks_encoded_dot}
use Rattle.ref_uri.proofs.dots.may_hold_encoded_dot.Goals as goal

pub returns : goal.returns
returns c none = lacks_encoded_dot c.args.bytes.now (λ k lt. c.loop-at.invariant.1 k (omega arith))
