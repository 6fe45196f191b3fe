use Rattle.std.proofs.Common.{◌≡◌, length, ◌+◌, false}
use Rattle.ref_outline.specs.Offsets as spec
use Rattle.ref_outline.proofs.spans.quoted_count.Given as goal

abbrev pub invariant-bytes : goal.invariant-bytes
invariant-bytes l =
    (spec.quoted_count l.quote l.has_escapes false l.bytes
    ≡ l.passed + spec.quoted_count l.quote l.has_escapes l.is_escaped l.rest)
    × (l.passed + length l.rest ≡ length l.bytes)

abbrev pub decreases-bytes : goal.decreases-bytes
decreases-bytes l = length l.rest
