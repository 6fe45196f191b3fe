use Rattle.std.proofs.Common.{◌≡◌, length}
use Rattle.ref_edits.specs.Tokens as spec
use Rattle.ref_edits.proofs.tokens.is_within.Given as goal

abbrev pub invariant-bytes : goal.invariant-bytes
invariant-bytes l =
    spec.is_within l.pointer l.outer ≡ spec.is_within l.left l.wanted

abbrev pub decreases-bytes : goal.decreases-bytes
decreases-bytes l = length l.wanted
