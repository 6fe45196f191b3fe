use Rattle.std.proofs.Common.{◌∙◌, sym}
use Rattle.ref_draft.specs.declared.draft.Draft.TheVariants.{Draft7}
use Rattle.ref_draft.proofs.Disjoint.{members_first}
use Rattle.ref_draft.proofs.spec.draft7.holding.Goals as goal

pub returns-then-is_map : goal.returns-then-is_map
returns-then-is_map c = sym (members_first Draft7 c.args.keyword.now (sym c.is_map.ensures ∙ c.if-is_map.true))
