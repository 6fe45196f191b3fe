use Rattle.std.proofs.Common.{rules}
use Rattle.ref_uri.proofs.target.directory.Goals as goal

pub returns-then-is_empty-clause-value : goal.returns-then-is_empty-clause-value
returns-then-is_empty-clause-value c = search rules
