use Rattle.std.proofs.Common.{◌≡◌, map, flat_map, take}
use Rattle.std.specs.List.{enumerate_from}
use Rattle.ref_parts.specs.Table.{entries_of}
use Rattle.ref_rules.specs.Cases.{entry_of}
use Rattle.ref_rules.specs.Views.{name_of}
use Rattle.ref_rules.proofs.cases.entries_in.Given as goal

abbrev pub invariant-loop-number : goal.invariant-loop-number
invariant-loop-number l = entries_of l.list.items ≡ flat_map entry_of (enumerate_from 0 (map name_of (take l.number l.there)))
