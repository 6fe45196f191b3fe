use Rattle.std.proofs.Common.{arith}
use Rattle.std.proofs.lemmas.Grind.{common_steps}
use Rattle.ref_uri.proofs.error.UriErrorDisplay.fmt.Goals as goal

pub returns-in_ok-write-in-Resolve-clause-writes : goal.returns-in_ok-write-in-Resolve-clause-writes
returns-in_ok-write-in-Resolve-clause-writes g c = grind (arith, common_steps)
