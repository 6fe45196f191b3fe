use Rattle.std.proofs.Common.{◌∙◌, map, string_bytes}
use Rattle.ref_configuration.proofs.Reading.{not_among_said}
use Rattle.ref_configuration.proofs.member.not_among_text.Goals as goal

pub returns : goal.returns
returns c = c.in_ok-why.ensures.ok ∙ not_among_said (map (λ n. n.now) c.args.names.now) c.args.text.now (string_bytes c.in_ok-known.known) c.in_ok-known.ensures
