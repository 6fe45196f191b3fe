use Rattle.std.proofs.Common.{◌≡◌, map, take}
use Rattle.ref_rules.specs.Views.{spot_of, place_of}
use Rattle.ref_rules.proofs.spots.places_of.Given as goal

abbrev pub invariant-loop-spot : goal.invariant-loop-spot
invariant-loop-spot l = map place_of l.places.items ≡ map spot_of (take l.spot-index l.spots)
