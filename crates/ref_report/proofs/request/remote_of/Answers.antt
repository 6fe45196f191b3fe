use Rattle.std.proofs.Common.{◌+◌, drop, sym, ap, ◌∙◌}
use Rattle.serde_json.specs.View.{view, items_view}
use Rattle.ref_error.specs.Retrieving.{trees_of}
use Rattle.ref_report.specs.Request.{every, retrievable_of}
use Rattle.ref_report.proofs.Trees.{in_front, drop_read, retrievable_next}
use Rattle.ref_report.proofs.request.remote_of.Goals as goal

pub loop-item-preserved : goal.loop-item-preserved
loop-item-preserved c =
    let items = c.deref-item-items.result.now in
    let i = c.loop-item.item-index in
    let item = c.item-item.result in
    let done = c.loop-item.documents.items in
    let left = every retrievable_of (items_view (drop (i + 1) items)) in
    ap (λ ds. in_front (trees_of ds) left) c.in_ok-push.ensures.items
    ∙ retrievable_next done c.in-Some-2.document (view item) left (rw c.in-Some-2.is at c.in_ok-document.ensures)
    ∙ ap (λ xs. in_front (trees_of done) (every retrievable_of (items_view xs))) (sym (drop_read items i item c.loop-item-test.true c.item-item.is))
    ∙ c.loop-item.invariant
