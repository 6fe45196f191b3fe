use Rattle.std.proofs.Common.{◌≡◌, map, drop}
use Rattle.serde_json.specs.View.{items_view}
use Rattle.ref_report.specs.Request.{every, step_of}
use Rattle.ref_report.specs.inner.View.{step_view}
use Rattle.ref_report.proofs.Trees.{in_front}
use Rattle.ref_report.proofs.request.steps_of.Given as goal

abbrev pub invariant-loop-item : goal.invariant-loop-item
invariant-loop-item l =
    in_front (map step_view l.steps.items) (every step_of (items_view (drop l.item-index l.item-items))) ≡ every step_of (items_view l.item-items)
