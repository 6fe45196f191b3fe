use Rattle.std.proofs.Common.{◌∙◌}
use Rattle.ref_rules.proofs.Turning.{entries_of-reverse}
use Rattle.ref_rules.proofs.table.turned_table.Goals as goal

pub returns : goal.returns
returns c = c.in_ok-table.ensures.entered ∙ entries_of-reverse c.args.list.items c.reverse.new.self.items c.reverse.ensures.items
