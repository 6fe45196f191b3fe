use Rattle.std.proofs.Common.{◌∙◌, string_bytes}
use Rattle.ref_configuration.proofs.Reading.{no_level_said}
use Rattle.ref_configuration.proofs.table.no_level_text.Goals as goal

pub returns : goal.returns
returns c = c.in_ok-text.ensures.ok ∙ no_level_said c.args.rule.now (string_bytes c.in_ok-known.known) c.in_ok-known.ensures
