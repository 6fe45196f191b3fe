use Rattle.std.proofs.Common.{◌≡◌, ◌≤◌, length, ◌+◌}
use Rattle.ref_outline.specs.Offsets as spec
use Rattle.ref_outline.proofs.spans.plain_count.Given as goal

abbrev pub invariant-bytes : goal.invariant-bytes
invariant-bytes l =
    (spec.plain_count 0 0 l.bytes ≡ spec.plain_count l.passed l.end l.rest)
    × (l.passed + length l.rest ≡ length l.bytes)
    × (l.end ≤ l.passed)

abbrev pub decreases-bytes : goal.decreases-bytes
decreases-bytes l = length l.rest
