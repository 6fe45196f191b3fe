use Rattle.referencing.proofs.Agreeing.{value_there}
use Rattle.referencing.proofs.registry.Registry.places.Goals as goal

pub returns-clause-are_there : goal.returns-clause-are_there
returns-clause-are_there c = λ d p own there. value_there d p (c.local_index.ensures.children d own) there

pub returns-in_err-places-clause-are_there : goal.returns-in_err-places-clause-are_there
returns-in_err-places-clause-are_there c = λ d p own there. value_there d p (c.local_index.ensures.children d own) there
