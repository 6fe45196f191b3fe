use Rattle.std.proofs.Common.{◌∙◌, refl}
use Rattle.ref_findings.proofs.Tables.{entries_of-reverse}
use Rattle.ref_findings.proofs.bearers.table_of.Goals as goal

pub returns : goal.returns
returns c = c.in_ok-table.ensures.entered ∙ entries_of-reverse c.args.entries.items c.reverse.new.self.items c.reverse.ensures.items refl
