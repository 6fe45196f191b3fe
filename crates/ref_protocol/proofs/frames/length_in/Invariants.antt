use Rattle.std.proofs.Common.{◌≡◌, length, true}
use Rattle.ref_protocol.specs.Frames as spec
use Rattle.ref_protocol.proofs.frames.length_in.Given as goal

abbrev pub invariant-bytes : goal.invariant-bytes
invariant-bytes l = spec.length_in l.head true ≡ spec.length_in l.rest l.begins

abbrev pub decreases-bytes : goal.decreases-bytes
decreases-bytes l = length l.rest
