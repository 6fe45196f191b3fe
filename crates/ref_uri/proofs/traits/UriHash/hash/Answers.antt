use Rattle.std.proofs.Common.{rules}
use Rattle.ref_uri.proofs.traits.UriHash.hash.Goals as goal

pub returns : goal.returns
returns g c = search rules
