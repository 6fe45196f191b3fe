use Rattle.std.proofs.Common.{subst}
use Rattle.ref_edits.specs.inner.Waiting.{AllAfter}
use Rattle.ref_edits.proofs.Changing.{all_last}
use Rattle.ref_edits.proofs.trees.push.Goals as goal

pub returns : goal.returns
returns c = λ w all.
    all_last w c.args.waiting.now.items record { pointer = c.args.pointer; before = c.args.before; after = c.args.after }
    (subst (AllAfter w) c.in_ok-push.ensures.items all)
