use Rattle.std.proofs.Common.{◌≡◌, map, drop}
use Rattle.ref_configuration.specs.Names.{is_among}
use Rattle.ref_configuration.proofs.names.is_among.Given as goal

abbrev pub invariant-loop-known : goal.invariant-loop-known
invariant-loop-known l =
    is_among (map (λ k. k.now) (drop l.known-index l.names)) l.name ≡ is_among (map (λ k. k.now) l.names) l.name
