use Rattle.std.proofs.Common.{rules}
use Rattle.ref_parts.proofs.segments.child_at.Goals as goal

pub returns-in-Index : goal.returns-in-Index
returns-in-Index c = search rules
