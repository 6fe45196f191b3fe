use Rattle.std.proofs.Common.{◌≡◌, ◌≤◌, ◌++◌, drop}
use Rattle.ref_patterns.specs.Patterns.{parts_after, parts_of}
use Rattle.ref_patterns.proofs.Read.{is_first_at}
use Rattle.ref_patterns.proofs.pattern.parts_of.Given as goal

abbrev pub invariant-loop-passed : goal.invariant-loop-passed
invariant-loop-passed l =
    (l.parts.items ++ parts_after 0 (is_first_at l.bytes l.index) (drop l.index l.bytes) ≡ parts_of l.bytes) × (l.passed ≤ l.index)
