use Rattle.std.proofs.Common.{◌≡◌, map, flat_map, take}
use Rattle.std.specs.List.{enumerate_from}
use Rattle.ref_rules.specs.Slips.{slips_at}
use Rattle.ref_rules.specs.Views.{place_of, slip_of}
use Rattle.ref_rules.proofs.list.slips.Given as goal

abbrev pub invariant-loop-number : goal.invariant-loop-number
invariant-loop-number l = map slip_of l.list.items ≡ flat_map slips_at (enumerate_from 0 (map place_of (take l.number l.places)))
