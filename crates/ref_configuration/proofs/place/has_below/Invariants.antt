use Rattle.std.proofs.Common.{◌≡◌, map, drop}
use Rattle.toml.specs.View.{view}
use Rattle.ref_configuration.specs.Places.{has_below}
use Rattle.ref_configuration.proofs.place.has_below.Given as goal

abbrev pub invariant-loop-key : goal.invariant-loop-key
invariant-loop-key l =
    has_below (map (λ k. k.now) (drop l.key-index l.keys)) l.item l.name (view l.value) ≡ has_below (map (λ k. k.now) l.keys) l.item l.name (view l.fn.value)
