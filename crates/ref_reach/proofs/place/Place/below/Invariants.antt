use Rattle.std.proofs.Common.{◌≡◌, map}
use Rattle.ref_descriptions.specs.Views.{inner_of}
use Rattle.ref_reach.specs.Places.{inner_place}
use Rattle.ref_reach.specs.Views.{place_of}
use Rattle.ref_reach.proofs.place.Place.below.Given as goal

abbrev pub invariant-loop-inner : goal.invariant-loop-inner
invariant-loop-inner l = map place_of l.places.items ≡ map (inner_place (place_of l.self)) (map inner_of l.yielded)
