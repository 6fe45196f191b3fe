use Rattle.std.proofs.Common.{◌≡◌, map, drop}
use Rattle.serde_json.specs.View.{items_view}
use Rattle.ref_report.specs.Request.{every, document_of}
use Rattle.ref_report.specs.inner.View.{document_view}
use Rattle.ref_report.proofs.Trees.{in_front}
use Rattle.ref_report.proofs.request.documents_of.Given as goal

abbrev pub invariant-loop-item : goal.invariant-loop-item
invariant-loop-item l =
    in_front (map document_view l.documents.items) (every document_of (items_view (drop l.item-index l.item-items))) ≡ every document_of (items_view l.item-items)
