use Rattle.std.proofs.Common.{◌∙◌, map, string_bytes}
use Rattle.ref_configuration.proofs.Reading.{no_name_said}
use Rattle.ref_configuration.proofs.member.no_name_text.Goals as goal

pub returns : goal.returns
returns c = c.in_ok-text.ensures.ok ∙ no_name_said (map (λ n. n.now) c.args.names.now) c.args.name.now (string_bytes c.in_ok-known.known) c.in_ok-known.ensures
