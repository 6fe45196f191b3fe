use Rattle.std.proofs.Common.{◌≡◌, ◌+◌, ◌≤◌, length}
use Rattle.ref_lsp.specs.Lines as spec
use Rattle.ref_lsp.proofs.ranges.up_to_line.Given as goal

abbrev pub invariant-bytes : goal.invariant-bytes
invariant-bytes l =
    (spec.up_to_line 0 0 l.text ≡ spec.up_to_line l.passed l.end l.rest)
    × (l.passed + length l.rest ≤ length l.text)

abbrev pub decreases-bytes : goal.decreases-bytes
decreases-bytes l = length l.rest
