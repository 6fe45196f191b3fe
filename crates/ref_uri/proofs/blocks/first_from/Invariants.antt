use Rattle.std.proofs.Common.{ℕ, ◌≢◌, ◌≤◌, ◌<◌, ◌-◌, length, get_or}
use Rattle.ref_uri.proofs.blocks.first_from.Given as goal

abbrev pub invariant-loads : goal.invariant-loads
invariant-loads l = (l.fn.from ≤ l.at) × (l.at ≤ length l.bytes) × ((k : ℕ) → l.fn.from ≤ k → k < l.at → get_or l.bytes k 0 ≢ l.byte)

abbrev pub decreases-loads : goal.decreases-loads
decreases-loads l = length l.bytes - l.at

abbrev pub invariant-loop-at : goal.invariant-loop-at
invariant-loop-at l = (l.fn.from ≤ l.at) × (l.at ≤ length l.bytes) × ((k : ℕ) → l.fn.from ≤ k → k < l.at → get_or l.bytes k 0 ≢ l.byte)

abbrev pub decreases-loop-at : goal.decreases-loop-at
decreases-loop-at l = length l.bytes - l.at
