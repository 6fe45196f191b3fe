use Rattle.std.proofs.Common.{◌≡◌, ◌+◌, ◌≤◌, length}
use Rattle.ref_lsp.specs.Lines as spec
use Rattle.ref_lsp.proofs.ranges.since_line.Given as goal

abbrev pub invariant-bytes : goal.invariant-bytes
invariant-bytes l =
    (spec.since_line 0 l.text ≡ spec.since_line l.count l.rest)
    × (l.count + length l.rest ≤ length l.text)

abbrev pub decreases-bytes : goal.decreases-bytes
decreases-bytes l = length l.rest
