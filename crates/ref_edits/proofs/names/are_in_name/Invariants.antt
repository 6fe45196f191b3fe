use Rattle.std.proofs.Common.{◌≡◌, length}
use Rattle.ref_edits.specs.Names as spec
use Rattle.ref_edits.proofs.names.are_in_name.Given as goal

abbrev pub invariant-bytes : goal.invariant-bytes
invariant-bytes l = spec.are_in_name l.bytes ≡ spec.are_in_name l.rest

abbrev pub decreases-bytes : goal.decreases-bytes
decreases-bytes l = length l.rest
