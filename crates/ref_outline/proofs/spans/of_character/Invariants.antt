use Rattle.std.proofs.Common.{◌≡◌, length, ◌+◌}
use Rattle.ref_outline.specs.Offsets as spec
use Rattle.ref_outline.proofs.spans.of_character.Given as goal

abbrev pub invariant-bytes : goal.invariant-bytes
invariant-bytes l =
    (spec.of_character l.character l.line ≡ l.passed + spec.of_character l.left l.rest)
    × (l.passed + length l.rest ≡ length l.line)

abbrev pub decreases-bytes : goal.decreases-bytes
decreases-bytes l = length l.rest
