use Rattle.ref_vocabularies.proofs.Growth.{contains-with, with-swap, with-twice}
use Rattle.ref_vocabularies.proofs.laws.sets_have_no_order_of_growth.Goals as goal

pub returns : goal.returns
returns c = record { contains = contains-with; order = with-swap; twice = with-twice }
