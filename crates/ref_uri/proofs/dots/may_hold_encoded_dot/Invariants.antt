use Rattle.std.proofs.Common.{ℕ, ◌≤◌, ◌<◌, ◌-◌, length}
use Rattle.ref_uri.specs.inner.Removal.{IsNoEncodedDot}
use Rattle.ref_uri.proofs.dots.may_hold_encoded_dot.Given as goal

abbrev pub invariant-loads : goal.invariant-loads
invariant-loads l = (l.at ≤ length l.bytes) × ((k : ℕ) → k < l.at → IsNoEncodedDot l.bytes k)

abbrev pub decreases-loads : goal.decreases-loads
decreases-loads l = length l.bytes - l.at

abbrev pub invariant-loop-at : goal.invariant-loop-at
invariant-loop-at l = (l.at ≤ length l.bytes) × ((k : ℕ) → k < l.at → IsNoEncodedDot l.bytes k)

abbrev pub decreases-loop-at : goal.decreases-loop-at
decreases-loop-at l = length l.bytes - l.at
