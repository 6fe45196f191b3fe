use Rattle.std.proofs.Common.{◌≡◌, length, ◌+◌}
use Rattle.ref_protocol.specs.Frames as spec
use Rattle.ref_protocol.proofs.frames.has_name.Given as goal

abbrev pub invariant-name : goal.invariant-name
invariant-name l =
    (spec.has_name l.name l.bytes ≡ spec.has_name l.left l.rest)
    × (length l.name + length l.rest ≡ length l.bytes + length l.left)

abbrev pub decreases-name : goal.decreases-name
decreases-name l = length l.left
