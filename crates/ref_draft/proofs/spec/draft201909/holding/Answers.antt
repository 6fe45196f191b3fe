use Rattle.std.proofs.Common.{◌∙◌, sym}
use Rattle.ref_draft.specs.declared.draft.Draft.TheVariants.{Draft201909}
use Rattle.ref_draft.proofs.Disjoint.{members_first}
use Rattle.ref_draft.proofs.spec.draft201909.holding.Goals as goal

pub returns-then-is_map_or_defs : goal.returns-then-is_map_or_defs
returns-then-is_map_or_defs c = sym (members_first Draft201909 c.args.keyword.now (sym c.is_map_or_defs.ensures ∙ c.if-is_map_or_defs.true))
