use Rattle.std.proofs.Common.{◌≡◌, map, drop}
use Rattle.toml.specs.View.{items_view}
use Rattle.ref_configuration.specs.Members.{overrides_of}
use Rattle.ref_configuration.specs.View.{file_rules}
use Rattle.ref_configuration.proofs.Reading.{in_front}
use Rattle.ref_configuration.proofs.table.overrides_of.Given as goal

abbrev pub invariant-loop-item : goal.invariant-loop-item
invariant-loop-item l =
    in_front (map file_rules l.list.items) (overrides_of l.item (items_view (drop l.item l.items))) ≡ overrides_of 0 (items_view l.items)
