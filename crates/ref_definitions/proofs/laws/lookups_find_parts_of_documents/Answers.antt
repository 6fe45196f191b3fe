use Rattle.ref_definitions.proofs.LookedUp.{looked_up_is_part, recursive_is_part, unique_are_there}
use Rattle.ref_definitions.proofs.laws.lookups_find_parts_of_documents.Goals as goal

pub returns : goal.returns
returns c = record { law = looked_up_is_part; recursive = recursive_is_part; children = unique_are_there }
