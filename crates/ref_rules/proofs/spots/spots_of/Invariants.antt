use Rattle.std.proofs.Common.{◌≡◌, ◌++◌, ◌∷◌, [], map, flat_map, take}
use Rattle.serde_json.specs.View.{view}
use Rattle.ref_rules.specs.Places.{root, below}
use Rattle.ref_rules.specs.Views.{spot_of}
use Rattle.ref_rules.proofs.spots.spots_of.Given as goal

abbrev pub invariant-loop-number : goal.invariant-loop-number
invariant-loop-number l = map spot_of l.spots.items ≡ (root l.fn.draft (view l.root) ∷ []) ++ flat_map below (take l.number (map spot_of l.spots.items))
