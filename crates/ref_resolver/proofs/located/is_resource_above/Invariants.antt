use Rattle.std.proofs.Common.{◌≡◌, map, drop, is_some}
use Rattle.ref_definitions.specs.Resources.{meant_place}
use Rattle.ref_resolver.proofs.located.is_resource_above.Given as goal

abbrev pub invariant-loop-parent : goal.invariant-loop-parent
invariant-loop-parent l = is_some (meant_place (map (λ p. p.now) l.parents) l.uri) ≡ is_some (meant_place (map (λ p. p.now) (drop l.parent-index l.parents)) l.uri)
