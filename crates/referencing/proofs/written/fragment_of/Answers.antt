use Rattle.std.proofs.Common.{rules}
use Rattle.referencing.proofs.written.fragment_of.Goals as goal

pub returns-clause-text : goal.returns-clause-text
returns-clause-text c = search rules
