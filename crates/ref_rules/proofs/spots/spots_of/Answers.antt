use Rattle.std.proofs.Common.{◌≡◌, ◌∷◌, [], true, map, rules}
use Rattle.serde_json.specs.View.{view}
use Rattle.ref_rules.specs.Places.{root}
use Rattle.ref_rules.specs.Views.{spot_of}
use Rattle.ref_rules.proofs.Growing.{next_places}
use Rattle.ref_rules.proofs.spots.spots_of.Goals as goal

pub loop-number-preserved : goal.loop-number-preserved
loop-number-preserved c =
    let so : c.in_ok-push_below.field-0 ≡ true = search rules in
    next_places (root c.args.draft (view c.args.root.now) ∷ []) (map spot_of c.loop-number.spots.items) (map spot_of c.push_below.new.spots.items) c.loop-number.number c.in_ok-push_below.field-0 so c.in_ok-push_below.ensures c.loop-number.invariant
