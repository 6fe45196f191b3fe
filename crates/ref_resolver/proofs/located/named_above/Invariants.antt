use Rattle.std.proofs.Common.{◌≡◌, ◌≤◌, ◌+◌, ◌-◌, length, map, drop}
use Rattle.ref_definitions.specs.Anchors.{named_entry}
use Rattle.ref_resolver.specs.Locations.{name_spot_from}
use Rattle.ref_resolver.proofs.located.named_above.Given as goal

abbrev pub invariant-loop-number : goal.invariant-loop-number
invariant-loop-number l =
    (l.number ≤ length l.parents)
    × (named_entry (map (λ p. p.now) l.parents) l.uri l.name ≡ named_entry (map (λ p. p.now) (drop l.number l.parents)) l.uri l.name)
    × (name_spot_from 1 (map (λ p. p.now) l.parents) l.uri l.name ≡ name_spot_from (l.number + 1) (map (λ p. p.now) (drop l.number l.parents)) l.uri l.name)

abbrev pub decreases-loop-number : goal.decreases-loop-number
decreases-loop-number l = length l.parents - l.number
