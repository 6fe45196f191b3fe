use Rattle.ref_draft.proofs.Trim.{after_hash_is}
use Rattle.ref_draft.proofs.spec.ids.after_hash.Goals as goal

pub returns : goal.returns
returns c = after_hash_is c.args.text.now c.strip_prefix.result c.strip_prefix.ensures.cases
