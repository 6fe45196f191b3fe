use Rattle.ref_definitions.proofs.Differ.{places_are_there, children_of_places_are_there, paths_differ}
use Rattle.ref_definitions.proofs.Standing.{all_are_there_where}
use Rattle.ref_definitions.proofs.laws.places_are_at_their_paths.Goals as goal

pub returns : goal.returns
returns c = record { values = places_are_there; children = children_of_places_are_there; are_at_paths = all_are_there_where; paths = paths_differ }
