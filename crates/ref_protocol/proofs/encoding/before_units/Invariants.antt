use Rattle.std.proofs.Common.{◌≡◌, length, ◌+◌}
use Rattle.ref_protocol.specs.Positions as spec
use Rattle.ref_protocol.proofs.encoding.before_units.Given as goal

abbrev pub invariant-bytes : goal.invariant-bytes
invariant-bytes l =
    (spec.before_units l.encoding l.units l.line ≡ l.passed + spec.before_units l.encoding l.left l.rest)
    × (l.passed + length l.rest ≡ length l.line)

abbrev pub decreases-bytes : goal.decreases-bytes
decreases-bytes l = length l.rest
