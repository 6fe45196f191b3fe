use Rattle.std.proofs.Common.{rules}
use Rattle.ref_vocabularies.proofs.dialect.named.Goals as goal

pub returns-in-Ok : goal.returns-in-Ok
returns-in-Ok c = search rules
