use Rattle.std.proofs.Common.{◌≡◌, drop}
use Rattle.serde_json.specs.View.{items_view}
use Rattle.ref_error.specs.Retrieving.{trees_of}
use Rattle.ref_report.specs.Request.{every, retrievable_of}
use Rattle.ref_report.proofs.Trees.{in_front}
use Rattle.ref_report.proofs.request.remote_of.Given as goal

abbrev pub invariant-loop-item : goal.invariant-loop-item
invariant-loop-item l =
    in_front (trees_of l.documents.items) (every retrievable_of (items_view (drop l.item-index l.item-items))) ≡ every retrievable_of (items_view l.item-items)
