use Rattle.std.proofs.Common.{rules}
use Rattle.ref_uri.proofs.written.push_triple.Goals as goal

pub returns-then-is_unreserved : goal.returns-then-is_unreserved
returns-then-is_unreserved c = search rules
