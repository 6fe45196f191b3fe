use Rattle.std.proofs.Common.{◌≡◌, length}
use Rattle.ref_lsp.specs.Diagnostics as spec
use Rattle.ref_lsp.proofs.judged.may_go_on.Given as goal

abbrev pub invariant-bytes : goal.invariant-bytes
invariant-bytes l = spec.may_go_on l.bytes ≡ spec.may_go_on l.rest

abbrev pub decreases-bytes : goal.decreases-bytes
decreases-bytes l = length l.rest
