use Rattle.std.proofs.Common.{◌≡◌, length}
use Rattle.ref_lsp.specs.Kinds as spec
use Rattle.ref_lsp.proofs.kinds.along.Given as goal

abbrev pub invariant-steps : goal.invariant-steps
invariant-steps l = spec.along l.version l.fn.here l.steps ≡ spec.along l.version l.at l.rest

abbrev pub decreases-steps : goal.decreases-steps
decreases-steps l = length l.rest
