use Rattle.std.proofs.Common.{◌∙◌}
use Rattle.ref_draft.specs.Keywords.{known_in_all}
use Rattle.ref_draft.proofs.Turned.{turned}
use Rattle.ref_draft.proofs.spec.known.in_all.Goals as goal

pub returns : goal.returns
returns c = c.contains.ensures.value ∙ turned c.args.keyword.now known_in_all
