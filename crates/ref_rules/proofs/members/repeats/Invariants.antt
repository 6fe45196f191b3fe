use Rattle.std.proofs.Common.{◌≡◌, map, flat_map, take}
use Rattle.std.specs.List.{enumerate_from}
use Rattle.ref_rules.specs.Members.{repeat_at}
use Rattle.ref_rules.specs.Views.{member_of, repeat_of}
use Rattle.ref_rules.proofs.members.repeats.Given as goal

abbrev pub invariant-loop-number : goal.invariant-loop-number
invariant-loop-number l = map repeat_of l.list.items ≡ flat_map (repeat_at (map member_of l.members)) (enumerate_from 0 (map member_of (take l.number l.members)))
