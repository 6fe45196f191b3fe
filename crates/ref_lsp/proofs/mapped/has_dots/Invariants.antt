use Rattle.std.proofs.Common.{◌≡◌, length}
use Rattle.ref_lsp.specs.Names as spec
use Rattle.ref_lsp.proofs.mapped.has_dots.Given as goal

abbrev pub invariant-bytes : goal.invariant-bytes
invariant-bytes l = spec.has_dots l.path ≡ spec.has_dots l.rest

abbrev pub decreases-bytes : goal.decreases-bytes
decreases-bytes l = length l.rest
