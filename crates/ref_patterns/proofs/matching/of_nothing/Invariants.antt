use Rattle.std.proofs.Common.{◌≡◌, ◌+◌, []}
use Rattle.ref_patterns.specs.inner.Ends.{matched}
use Rattle.ref_patterns.proofs.matching.of_nothing.Given as goal

abbrev pub invariant-loop-bytes : goal.invariant-loop-bytes
invariant-loop-bytes l = l.ends.are_matched.items ≡ matched [] l.path (l.bytes + 1)
