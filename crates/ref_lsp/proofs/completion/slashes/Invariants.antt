use Rattle.std.proofs.Common.{◌≡◌, ◌+◌, ◌≤◌, length}
use Rattle.ref_lsp.specs.Relative as spec
use Rattle.ref_lsp.proofs.completion.slashes.Given as goal

abbrev pub invariant-bytes : goal.invariant-bytes
invariant-bytes l =
    (spec.slashes l.bytes ≡ l.count + spec.slashes l.rest)
    × (l.count + length l.rest ≤ length l.bytes)

abbrev pub decreases-bytes : goal.decreases-bytes
decreases-bytes l = length l.rest
