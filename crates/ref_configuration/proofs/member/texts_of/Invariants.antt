use Rattle.std.proofs.Common.{◌≡◌, drop}
use Rattle.toml.specs.View.{items_view}
use Rattle.ref_configuration.specs.Members.{texts_of}
use Rattle.ref_configuration.specs.View.{texts, where_of}
use Rattle.ref_configuration.proofs.Reading.{in_front}
use Rattle.ref_configuration.proofs.member.texts_of.Given as goal

abbrev pub invariant-loop-item : goal.invariant-loop-item
invariant-loop-item l =
    in_front (texts l.list) (texts_of (where_of l.at) l.name (items_view (drop l.item-index l.items))) ≡ texts_of (where_of l.at) l.name (items_view l.items)
