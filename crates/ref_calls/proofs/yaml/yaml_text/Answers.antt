use Rattle.std.proofs.Common.{ap, sym, ◌∙◌, option_and_then}
use Rattle.serde_json.specs.Find.{as_str}
use Rattle.serde_json.specs.View.{view}
use Rattle.ref_calls.proofs.InYaml.{no_text, one_text}
use Rattle.ref_calls.proofs.yaml.yaml_text.Goals as goal

pub returns-then-len-ne1 : goal.returns-then-len-ne1
returns-then-len-ne1 c = no_text (view c.args.schema.now) c.in_ok-members.members.now.entries c.in_ok-members.ensures (λ is. c.if-len-ne1.true (c.len.ensures.len ∙ is))

pub returns : goal.returns
returns c = c.as_str.ensures ∙ ap (option_and_then as_str) c.in_ok-get.ensures ∙ one_text (view c.args.schema.now) c.in_ok-members.members.now.entries c.in_ok-members.ensures (sym c.len.ensures.len ∙ c.if-len-ne1.false)
