use Rattle.std.proofs.Common.{rules}
use Rattle.ref_uri.proofs.reference.UriRef.authority.Goals as goal

pub returns : goal.returns
returns c = search rules
