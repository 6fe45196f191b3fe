use Rattle.std.proofs.Common.{◌∙◌}
use Rattle.ref_descriptions.proofs.Naming.{by_table}
use Rattle.ref_descriptions.proofs.fields.field_under.Goals as goal

pub returns-in_default : goal.returns-in_default
returns-in_default c =
    record { value = c.field_named.ensures ∙ by_table c.args.version c.args.kind c.args.name.now c.in_default.not-Paths c.in_default.not-Responses c.in_default.not-Callback }
