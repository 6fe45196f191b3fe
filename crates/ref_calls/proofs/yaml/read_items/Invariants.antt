use Rattle.std.proofs.Common.{◌≡◌, map, length}
use Rattle.std.specs.Vec.Iter.{into_iter_items, into_iter_len}
use Rattle.serde_json.specs.View.{view}
use Rattle.ref_calls.proofs.InYaml.{IsReadSoFar}
use Rattle.ref_calls.proofs.yaml.read_items.Given as goal

abbrev pub invariant-loop-item : goal.invariant-loop-item
invariant-loop-item l =
    IsReadSoFar (map view (into_iter_items l.initial.item-iterator)) (map view (into_iter_items l.item-iterator)) (map view l.read.items)
    × (into_iter_len l.item-iterator ≡ length (into_iter_items l.item-iterator))
