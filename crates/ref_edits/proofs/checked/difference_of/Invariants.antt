use Rattle.std.proofs.Common.{All, take}
use Rattle.ref_edits.specs.Checked.{IsEditRead}
use Rattle.ref_edits.proofs.checked.difference_of.Given as goal

abbrev pub invariant-loop-edit : goal.invariant-loop-edit
invariant-loop-edit l = All (IsEditRead l.given.texts.now l.plan.changes.items) (take l.edit-index l.edits)
