use Rattle.std.proofs.Common.{◌≡◌, length, ◌+◌, ◌≤◌}
use Rattle.ref_edits.specs.Tokens as spec
use Rattle.ref_edits.proofs.tokens.depth_of.Given as goal

abbrev pub invariant-bytes : goal.invariant-bytes
invariant-bytes l =
    (spec.depth_of l.pointer ≡ l.depth + spec.depth_of l.rest)
    × (l.depth + length l.rest ≤ length l.pointer)

abbrev pub decreases-bytes : goal.decreases-bytes
decreases-bytes l = length l.rest
