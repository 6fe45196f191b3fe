use Rattle.std.proofs.Common.{◌≡◌, map, drop}
use Rattle.serde_json.specs.View.{items_view}
use Rattle.referencing.specs.Following.{step_of}
use Rattle.ref_calls.specs.Calls.{each_item}
use Rattle.ref_calls.proofs.Further.{in_front}
use Rattle.ref_serve.specs.Following.{step_in}
use Rattle.ref_serve.proofs.following.steps_in.Given as goal

abbrev pub invariant-loop-index : goal.invariant-loop-index
invariant-loop-index l =
    in_front (map step_of l.steps.items) (each_item (step_in l.draft) l.index (items_view (drop l.index l.items))) ≡ each_item (step_in l.draft) 0 (items_view l.items)
