use Rattle.std.proofs.Common.{ℕ, ◌≢◌, ◌≤◌, ◌<◌, length, get_or}
use Rattle.ref_uri.proofs.dots.end_of_rest.Given as goal

abbrev pub invariant-loop-end : goal.invariant-loop-end
invariant-loop-end l = (l.start ≤ l.end) × (l.end ≤ length l.bytes) × ((i : ℕ) → l.end ≤ i → i < length l.bytes → get_or l.bytes i 0 ≢ 47)

abbrev pub decreases-loop-end : goal.decreases-loop-end
decreases-loop-end l = l.end
