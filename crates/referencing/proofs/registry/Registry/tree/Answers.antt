use Rattle.std.proofs.Common.{rules}
use Rattle.referencing.proofs.registry.Registry.tree.Goals as goal

pub returns : goal.returns
returns c = search rules
