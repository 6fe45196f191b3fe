use Rattle.std.proofs.Common.{rules}
use Rattle.ref_uri.proofs.traits.UriDisplay.fmt.Goals as goal

pub returns-clause-writes : goal.returns-clause-writes
returns-clause-writes g c = search rules
