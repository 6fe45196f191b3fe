use Rattle.std.proofs.Common.{◌≡◌, ◌≤◌, length}
use Rattle.ref_protocol.specs.Frames as spec
use Rattle.ref_protocol.proofs.frames.number_on.Given as goal

abbrev pub invariant-bytes : goal.invariant-bytes
invariant-bytes l =
    (spec.number_on l.begun l.text ≡ spec.number_on l.number l.rest) × (l.number ≤ 268435457)

abbrev pub decreases-bytes : goal.decreases-bytes
decreases-bytes l = length l.rest
