use Rattle.std.proofs.Common.{◌∙◌}
use Rattle.ref_rules.proofs.Suspects.{one_of_these}
use Rattle.ref_rules.proofs.suspect.is_among.Goals as goal

pub returns : goal.returns
returns c = c.contains.ensures.value ∙ one_of_these c.args.keyword.now c.args.keywords.now
