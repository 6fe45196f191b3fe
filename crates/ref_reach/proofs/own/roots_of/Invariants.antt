use Rattle.std.proofs.Common.{◌≡◌, map, flat_map, take}
use Rattle.std.specs.List.{enumerate_from}
use Rattle.ref_reach.specs.Places.{root_in}
use Rattle.ref_reach.specs.Views.{source_of, place_of}
use Rattle.ref_reach.proofs.own.roots_of.Given as goal

abbrev pub invariant-loop-number : goal.invariant-loop-number
invariant-loop-number l = map place_of l.places.items ≡ flat_map root_in (enumerate_from 0 (map source_of (take l.number l.sources)))
