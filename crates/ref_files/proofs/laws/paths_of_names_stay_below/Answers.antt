use Rattle.ref_files.proofs.StaysBelow.{path_of_names, names_of_path}
use Rattle.ref_files.proofs.laws.paths_of_names_stay_below.Goals as goal

pub returns : goal.returns
returns c = record { path = path_of_names; names = names_of_path }
