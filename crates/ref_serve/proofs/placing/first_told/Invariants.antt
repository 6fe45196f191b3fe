use Rattle.std.proofs.Common.{◌≡◌, drop}
use Rattle.serde_json.specs.View.{view, items_view}
use Rattle.ref_serve.specs.Where.{first_told}
use Rattle.ref_serve.proofs.placing.first_told.Given as goal

abbrev pub invariant-loop-item : goal.invariant-loop-item
invariant-loop-item l =
    first_told (view l.error) (items_view (drop l.item-index l.items)) ≡ first_told (view l.error) (items_view l.items)
