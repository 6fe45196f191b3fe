use Rattle.std.proofs.Common.{◌∙◌}
use Rattle.ref_draft.specs.Keywords.{known_since_2020}
use Rattle.ref_draft.proofs.Turned.{turned}
use Rattle.ref_draft.proofs.spec.known.since_2020.Goals as goal

pub returns : goal.returns
returns c = c.contains.ensures.value ∙ turned c.args.keyword.now known_since_2020
