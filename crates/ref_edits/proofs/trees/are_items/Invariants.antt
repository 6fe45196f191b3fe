use Rattle.std.proofs.Common.{drop}
use Rattle.serde_json.specs.View.{items_view}
use Rattle.ref_edits.specs.Changed as spec
use Rattle.ref_edits.specs.inner.Waiting.{AllAfter}
use Rattle.ref_edits.proofs.trees.are_items.Given as goal

abbrev pub invariant-loop-index : goal.invariant-loop-index
invariant-loop-index l =
    (w : spec.Wanted) → AllAfter w l.waiting.items
    → spec.AreItemsAfter w l.pointer l.index (items_view (drop l.index l.items)) (items_view (drop l.index l.now))
    → AllAfter w l.fn.waiting.items × spec.AreItemsAfter w l.pointer 0 (items_view l.items) (items_view l.now)
