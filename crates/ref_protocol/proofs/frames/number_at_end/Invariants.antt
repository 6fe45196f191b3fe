use Rattle.std.proofs.Common.{◌≡◌, length}
use Rattle.ref_protocol.specs.Frames as spec
use Rattle.ref_protocol.proofs.frames.number_at_end.Given as goal

abbrev pub invariant-bytes : goal.invariant-bytes
invariant-bytes l = spec.number_at_end l.number l.text ≡ spec.number_at_end l.number l.rest

abbrev pub decreases-bytes : goal.decreases-bytes
decreases-bytes l = length l.rest
