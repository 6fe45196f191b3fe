use Rattle.std.proofs.Common.{◌≡◌, map, flat_map, take}
use Rattle.std.specs.List.{enumerate_from}
use Rattle.ref_rules.specs.Cases.{alike_at}
use Rattle.ref_rules.specs.Views.{alike_of, name_of}
use Rattle.ref_rules.proofs.cases.all_alike.Given as goal

abbrev pub invariant-loop-number : goal.invariant-loop-number
invariant-loop-number l = map alike_of l.list.items ≡ flat_map (alike_at (map name_of l.there)) (enumerate_from 0 (map name_of (take l.number l.wanted)))
