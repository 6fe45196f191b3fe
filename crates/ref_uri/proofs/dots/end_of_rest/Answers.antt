use Rattle.std.proofs.Common.{◌-◌, arith}
use Rattle.ref_uri.proofs.GivenSegments.{rest_at, rest_none}
use Rattle.ref_uri.proofs.dots.end_of_rest.Goals as goal

pub returns-then-bytes-end-eq47-clause-value : goal.returns-then-bytes-end-eq47-clause-value
returns-then-bytes-end-eq47-clause-value c =
    rest_at c.args.bytes.now c.args.start (c.loop-end.end - 1) (omega arith) (omega arith) c.if-bytes-end-eq47.true (λ i behind below. c.loop-end.invariant.2 i (omega arith) below)

pub returns-clause-value : goal.returns-clause-value
returns-clause-value c =
    rest_none c.args.bytes.now c.args.start (λ i from below. c.loop-end.invariant.2 i (omega arith) below)
