use Rattle.std.proofs.Common.{rules}
use Rattle.ref_uri.proofs.target.PathOf.loses_same_dots.Goals as goal

pub returns-in-Removed : goal.returns-in-Removed
returns-in-Removed c = search rules
