use Rattle.std.proofs.Common.{◌≡◌, ◌∙◌, ap, is_some, Option, Some, None, option_map, refl, string_bytes}
use Rattle.serde_json.proofs.Views.{members_view-insert_entry, view-lookup}
use Rattle.serde_json.specs.View.{view, members_view}
use Rattle.serde_json.specs.declared.value.Value.{Value}
use Rattle.ref_yaml.proofs.build.insert.Goals as goal

same : (o : Option Value) → is_some o ≡ is_some (option_map view o)
same None = refl
same (Some v) = refl

pub returns-clause-value : goal.returns-clause-value
returns-clause-value c = ap members_view c.in_ok-insert.ensures.entries ∙ members_view-insert_entry c.args.members.now.entries c.args.name c.args.value

pub returns-clause-had : goal.returns-clause-had
returns-clause-had c = c.is_some.ensures ∙ ap is_some c.in_ok-insert.ensures.old ∙ same _ ∙ ap is_some (view-lookup (string_bytes c.args.name) c.args.members.now.entries)
