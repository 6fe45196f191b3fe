use Rattle.std.proofs.Common.{◌-◌, ◌≤◌, length}
use Rattle.ref_uri.specs.inner.Class.{allows}
use Rattle.ref_uri.proofs.RunLemmas.{PassBelow}
use Rattle.ref_uri.proofs.characters.long_run_len.Given as goal

abbrev pub invariant-loop-at : goal.invariant-loop-at
invariant-loop-at l = (l.at ≤ length l.bytes) × PassBelow (allows l.class) l.bytes l.at

abbrev pub decreases-loop-at : goal.decreases-loop-at
decreases-loop-at l = length l.bytes - l.at
