use Rattle.std.proofs.Common.{◌≡◌, length}
use Rattle.ref_lsp.specs.Relative as spec
use Rattle.ref_lsp.proofs.completion.has_colon.Given as goal

abbrev pub invariant-bytes : goal.invariant-bytes
invariant-bytes l = spec.has_colon l.bytes ≡ spec.has_colon l.rest

abbrev pub decreases-bytes : goal.decreases-bytes
decreases-bytes l = length l.rest
