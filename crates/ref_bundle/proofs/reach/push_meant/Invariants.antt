use Rattle.std.proofs.Common.{◌≡◌, ◌++◌, map, flat_map, take}
use Rattle.std.specs.Option.{option_to_list}
use Rattle.ref_definitions.specs.World.{Layer}
use Rattle.ref_bundle.specs.Needed.{document_under}
use Rattle.ref_bundle.specs.inner.Tables.{AreTables}
use Rattle.ref_bundle.proofs.reach.push_meant.Given as goal

abbrev pub invariant-loop-reference : goal.invariant-loop-reference
invariant-loop-reference l =
    (layer : Layer) → AreTables layer l.bearers
    → l.numbers.items ≡ l.initial.numbers.items ++ flat_map (λ uri. option_to_list (document_under layer uri)) (map (λ r. r.uri.value) (take l.reference-index l.references))
