use Rattle.ref_definitions.proofs.Below.{path_on}
use Rattle.ref_definitions.proofs.AtOrBelow.{below_is_place, place_is_below, place_has_base}
use Rattle.ref_definitions.proofs.laws.places_below_go_on_by_their_paths.Goals as goal

pub returns : goal.returns
returns c = record { places = λ d p q there under. below_is_place d q p there under; paths = λ p q under. path_on q p under; below = λ d p q path unique at there is. place_is_below d p q path unique at there is; bases = place_has_base }
