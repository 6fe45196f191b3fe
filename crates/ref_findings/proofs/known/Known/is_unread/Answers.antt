use Rattle.std.proofs.Common.{◌∙◌, []}
use Rattle.ref_parts.specs.Table.{last_value}
use Rattle.ref_findings.proofs.Tables.{among_is, copied_some}
use Rattle.ref_findings.proofs.known.Known.is_unread.Goals as goal

pub returns : goal.returns
returns c = copied_some c.get.result.0 (last_value c.args.uri.now [] c.args.self.now.unread.now) c.is_some.result c.is_some.ensures c.get.ensures.value ∙ among_is c.args.uri.now c.args.self.now.unread.now
