use Rattle.std.proofs.Common.{◌≡◌, ◌++◌, map, flat_map, take}
use Rattle.ref_reach.specs.Places.{below_place}
use Rattle.ref_reach.specs.Views.{place_of}
use Rattle.ref_reach.proofs.own.own_places.Given as goal

abbrev pub invariant-loop-number : goal.invariant-loop-number
invariant-loop-number l = map place_of l.places.items ≡ map place_of l.initial.places.items ++ flat_map below_place (take l.number (map place_of l.places.items))
