use Rattle.std.proofs.Common.{◌-◌, drop, length}
use Rattle.ref_patterns.specs.inner.Ends.{AreOf}
use Rattle.ref_patterns.proofs.matching.is_matched.Given as goal

abbrev pub invariant-loop-number : goal.invariant-loop-number
invariant-loop-number l = AreOf (drop (length l.parts - l.number) l.parts) l.path l.ends.are_matched.items
