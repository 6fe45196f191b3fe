use Rattle.std.proofs.Common.{ℕ, ◌≤◌, ◌<◌}
use Rattle.ref_uri.specs.inner.Removal.{IsInside}
use Rattle.ref_uri.proofs.dots.dot_begins_segment.Given as goal

abbrev pub invariant-loop-at : goal.invariant-loop-at
invariant-loop-at l = (k : ℕ) → l.from ≤ k → k < l.at → IsInside l.bytes k
