use Rattle.std.proofs.Common.{◌≡◌, map}
use Rattle.toml.specs.View.{members_view}
use Rattle.ref_configuration.specs.Members.{maps_of}
use Rattle.ref_configuration.specs.View.{pair}
use Rattle.ref_configuration.proofs.Reading.{in_front}
use Rattle.ref_configuration.proofs.table.maps_of.Given as goal

abbrev pub invariant-loop-prefix : goal.invariant-loop-prefix
invariant-loop-prefix l =
    in_front (map pair l.list.items) (maps_of (members_view l.prefix-iterator)) ≡ maps_of (members_view l.members.entries)
