use Rattle.std.proofs.Common.{◌≡◌, length, vec_len, sym, ◌∙◌, rules}
use Rattle.serde_json.specs.View.{view}
use Rattle.ref_calls.proofs.InYaml.{no_document}
use Rattle.ref_calls.proofs.yaml.yaml_document.Goals as goal

pub returns-then-len-ne2 : goal.returns-then-len-ne2
returns-then-len-ne2 c =
    let long : length c.in_ok-items.items.now.items ≡ vec_len c.in_ok-items.items.now = search rules in
    no_document (view c.args.item.now) c.in_ok-items.items.now.items c.in_ok-items.ensures (λ is. c.if-len-ne2.true (c.len.ensures ∙ sym long ∙ is))
