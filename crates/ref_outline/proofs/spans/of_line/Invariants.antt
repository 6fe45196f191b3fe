use Rattle.std.proofs.Common.{◌≡◌, length, ◌+◌}
use Rattle.ref_outline.specs.Offsets as spec
use Rattle.ref_outline.proofs.spans.of_line.Given as goal

abbrev pub invariant-bytes : goal.invariant-bytes
invariant-bytes l =
    (spec.of_line l.line l.text ≡ l.passed + spec.of_line l.left l.rest)
    × (l.passed + length l.rest ≡ length l.text)

abbrev pub decreases-bytes : goal.decreases-bytes
decreases-bytes l = length l.rest
