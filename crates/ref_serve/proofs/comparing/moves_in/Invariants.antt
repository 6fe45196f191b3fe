use Rattle.std.proofs.Common.{◌≡◌, map, drop}
use Rattle.serde_json.specs.View.{items_view}
use Rattle.ref_calls.specs.Calls.{each_item}
use Rattle.ref_calls.proofs.Further.{in_front}
use Rattle.ref_changes.specs.Views.{move_of}
use Rattle.ref_serve.specs.Comparisons.{move_in}
use Rattle.ref_serve.proofs.comparing.moves_in.Given as goal

abbrev pub invariant-loop-index : goal.invariant-loop-index
invariant-loop-index l =
    in_front (map move_of l.moves.items) (each_item move_in l.index (items_view (drop l.index l.items))) ≡ each_item move_in 0 (items_view l.items)
