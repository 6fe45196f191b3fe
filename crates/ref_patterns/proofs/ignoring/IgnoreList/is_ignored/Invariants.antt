use Rattle.std.proofs.Common.{◌≡◌, ◌-◌, None, drop, length, map}
use Rattle.ref_patterns.specs.Ignoring.{last_said, said_by}
use Rattle.ref_patterns.proofs.ignoring.IgnoreList.is_ignored.Given as goal

abbrev pub invariant-loop-number : goal.invariant-loop-number
invariant-loop-number l =
    last_said (map (said_by l.is_folder l.path) (drop (length l.self.list.items - l.number) l.self.list.items)) ≡ None
