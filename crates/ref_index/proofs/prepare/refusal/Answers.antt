use Rattle.std.proofs.Common.{rules}
use Rattle.ref_index.proofs.prepare.refusal.Goals as goal

pub returns-in-MetaSchema : goal.returns-in-MetaSchema
returns-in-MetaSchema c = search rules
