use Rattle.std.proofs.Common.{◌≡◌, ◌≤◌, length, ◌+◌, ◌*◌}
use Rattle.ref_protocol.specs.Positions as spec
use Rattle.ref_protocol.proofs.encoding.place_at.Given as goal

abbrev pub invariant-bytes : goal.invariant-bytes
invariant-bytes l =
    (spec.place_of l.encoding 0 0 l.offset l.text ≡ spec.place_of l.encoding l.line l.units l.left l.rest)
    × (l.line + length l.rest ≤ length l.text)
    × (l.units + 2 * length l.rest ≤ 2 * length l.text)

abbrev pub decreases-bytes : goal.decreases-bytes
decreases-bytes l = length l.rest
