use Rattle.referencing.proofs.Cloning.{entries_copied}
use Rattle.referencing.proofs.builder.copied.Goals as goal

pub returns : goal.returns
returns c = entries_copied c.args.pending.now.entries c.in_ok-copy.copy.entries c.in_ok-copy.ensures.cases
