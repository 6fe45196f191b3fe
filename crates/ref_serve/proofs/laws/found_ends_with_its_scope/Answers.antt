use Rattle.ref_serve.proofs.Scopes.{ends_with_its_scope}
use Rattle.ref_serve.proofs.laws.found_ends_with_its_scope.Goals as goal

pub returns : goal.returns
returns c = record { law = ends_with_its_scope }
