use Rattle.std.proofs.Common.{◌≡◌, map, flat_map, take}
use Rattle.std.specs.Option.{option_to_list}
use Rattle.ref_definitions.specs.World.{Layer}
use Rattle.ref_bundle.specs.Needed.{document_under, targets_from}
use Rattle.ref_bundle.specs.Saying.{seen_spot}
use Rattle.ref_bundle.specs.inner.Tables.{AreTables}
use Rattle.ref_bundle.proofs.reach.referred.Given as goal

abbrev pub invariant-loop-spot : goal.invariant-loop-spot
invariant-loop-spot l =
    (layer : Layer) → AreTables layer l.bearers
    → l.numbers.items ≡ flat_map (λ uri. option_to_list (document_under layer uri)) (flat_map (λ s. targets_from s.base s.value) (map seen_spot (take l.spot-index l.places)))
