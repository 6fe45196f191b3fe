use Rattle.std.proofs.Common.{[]}
use Rattle.serde_json.specs.View.{view}
use Rattle.ref_edits.specs.Changed as spec
use Rattle.ref_edits.specs.inner.Waiting.{AllAfter}
use Rattle.ref_edits.proofs.trees.is_changed.Given as goal

abbrev pub invariant-loop : goal.invariant-loop
invariant-loop l =
    let w = spec.wanted_of l.wanted in
    AllAfter w l.waiting.items → spec.IsAfter w [] (view l.before) (view l.after)
