use Rattle.std.proofs.Common.{◌≡◌, ◌≤◌, ◌+◌, ◌-◌, length, map, drop}
use Rattle.ref_definitions.specs.Resources.{meant_place}
use Rattle.ref_resolver.specs.Locations.{uri_spot_from}
use Rattle.ref_resolver.proofs.located.resource_above.Given as goal

abbrev pub invariant-loop-number : goal.invariant-loop-number
invariant-loop-number l =
    (l.number ≤ length l.parents)
    × (meant_place (map (λ p. p.now) l.parents) l.uri ≡ meant_place (map (λ p. p.now) (drop l.number l.parents)) l.uri)
    × (uri_spot_from 1 (map (λ p. p.now) l.parents) l.uri ≡ uri_spot_from (l.number + 1) (map (λ p. p.now) (drop l.number l.parents)) l.uri)

abbrev pub decreases-loop-number : goal.decreases-loop-number
decreases-loop-number l = length l.parents - l.number
