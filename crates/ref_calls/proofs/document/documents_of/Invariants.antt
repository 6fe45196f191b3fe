use Rattle.std.proofs.Common.{◌≡◌, map, length, vec_len}
use Rattle.std.specs.Vec.Iter.{into_iter_items, into_iter_len}
use Rattle.serde_json.specs.View.{items_view}
use Rattle.ref_calls.specs.Calls.{each_item, document_in}
use Rattle.ref_calls.specs.Given.{given_of}
use Rattle.ref_calls.proofs.Further.{in_front}
use Rattle.ref_calls.proofs.document.documents_of.Given as goal

abbrev pub invariant-loop-item : goal.invariant-loop-item
invariant-loop-item l =
    (in_front (map given_of l.documents.items) (each_item (document_in l.field) (vec_len l.documents) (items_view (into_iter_items l.item-iterator)))
    ≡ each_item (document_in l.field) 0 (items_view (into_iter_items l.initial.item-iterator)))
    × (into_iter_len l.item-iterator ≡ length (into_iter_items l.item-iterator))
