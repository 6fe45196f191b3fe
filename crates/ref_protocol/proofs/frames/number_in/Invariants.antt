use Rattle.std.proofs.Common.{◌≡◌, length}
use Rattle.ref_protocol.specs.Frames as spec
use Rattle.ref_protocol.proofs.frames.number_in.Given as goal

abbrev pub invariant-bytes : goal.invariant-bytes
invariant-bytes l = spec.number_in l.text ≡ spec.number_in l.rest

abbrev pub decreases-bytes : goal.decreases-bytes
decreases-bytes l = length l.rest
