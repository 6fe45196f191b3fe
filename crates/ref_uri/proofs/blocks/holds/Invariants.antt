use Rattle.std.proofs.Common.{ℕ, ◌≢◌, ◌≤◌, ◌<◌, ◌-◌, length, get_or}
use Rattle.ref_uri.proofs.blocks.holds.Given as goal

abbrev pub invariant-loads : goal.invariant-loads
invariant-loads l = (l.at ≤ length l.bytes) × ((k : ℕ) → k < l.at → get_or l.bytes k 0 ≢ l.byte)

abbrev pub decreases-loads : goal.decreases-loads
decreases-loads l = length l.bytes - l.at

abbrev pub invariant-loop-last : goal.invariant-loop-last
invariant-loop-last l = (k : ℕ) → k < l.last → get_or l.bytes k 0 ≢ l.byte
