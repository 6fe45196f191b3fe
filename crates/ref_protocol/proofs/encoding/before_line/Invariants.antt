use Rattle.std.proofs.Common.{◌≡◌, length, ◌+◌}
use Rattle.ref_protocol.specs.Positions as spec
use Rattle.ref_protocol.proofs.encoding.before_line.Given as goal

abbrev pub invariant-bytes : goal.invariant-bytes
invariant-bytes l =
    (spec.before_line l.line l.text ≡ l.passed + spec.before_line l.left l.rest)
    × (l.passed + length l.rest ≡ length l.text)

abbrev pub decreases-bytes : goal.decreases-bytes
decreases-bytes l = length l.rest
