use Rattle.std.proofs.Common.{◌≡◌, ◌≤◌, length, ◌+◌}
use Rattle.ref_protocol.specs.Frames as spec
use Rattle.ref_protocol.proofs.frames.head_end.Given as goal

abbrev pub invariant-bytes : goal.invariant-bytes
invariant-bytes l =
    (spec.head_end 0 l.bytes ≡ spec.head_end l.passed l.rest)
    × (l.passed + length l.rest ≡ length l.bytes)
    × (l.passed ≤ 8192)

abbrev pub decreases-bytes : goal.decreases-bytes
decreases-bytes l = length l.rest
