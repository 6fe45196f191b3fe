use Rattle.std.proofs.Common.{◌≡◌, false, length}
use Rattle.ref_lsp.specs.Keys as spec
use Rattle.ref_lsp.proofs.keys.is_reference.Given as goal

abbrev pub invariant-steps : goal.invariant-steps
invariant-steps l = spec.is_reference_from false l.path ≡ spec.is_reference_from l.are_names l.rest

abbrev pub decreases-steps : goal.decreases-steps
decreases-steps l = length l.rest
