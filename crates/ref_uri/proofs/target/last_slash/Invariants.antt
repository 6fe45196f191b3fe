use Rattle.std.proofs.Common.{ℕ, ◌≢◌, ◌≤◌, ◌<◌, length, get_or}
use Rattle.ref_uri.proofs.target.last_slash.Given as goal

abbrev pub invariant-loop-end : goal.invariant-loop-end
invariant-loop-end l = (l.end ≤ length l.path) × ((i : ℕ) → l.end ≤ i → i < length l.path → get_or l.path i 0 ≢ 47)

abbrev pub decreases-loop-end : goal.decreases-loop-end
decreases-loop-end l = l.end
