use Rattle.std.proofs.Common.{map, drop}
use Rattle.ref_resolver.specs.Layered.{IsHeld}
use Rattle.ref_resolver.proofs.located.resolved_above.Given as goal

abbrev pub invariant-loop-parent : goal.invariant-loop-parent
invariant-loop-parent l = IsHeld (map (λ p. p.now) l.parents) l.base l.uri → IsHeld (map (λ p. p.now) (drop l.parent-index l.parents)) l.base l.uri
