use Rattle.std.proofs.Common.{◌≡◌, ◌-◌, None, drop, length, map}
use Rattle.ref_patterns.specs.Ignoring.{last_said, said_by_line}
use Rattle.ref_patterns.proofs.ignoring.Ignore.verdict.Given as goal

abbrev pub invariant-loop-number : goal.invariant-loop-number
invariant-loop-number l =
    last_said (map (said_by_line l.is_folder l.below) (drop (length l.self.lines.items - l.number) l.self.lines.items)) ≡ None
