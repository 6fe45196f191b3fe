use Rattle.std.proofs.Common.{◌≡◌, map}
use Rattle.toml.specs.View.{members_view}
use Rattle.ref_configuration.specs.Members.{unknown_in}
use Rattle.ref_configuration.proofs.names.unknown_in.Given as goal

abbrev pub invariant-loop-name : goal.invariant-loop-name
invariant-loop-name l =
    unknown_in (map (λ k. k.now) l.names) (members_view l.name-iterator) ≡ unknown_in (map (λ k. k.now) l.names) (members_view l.table.entries)
