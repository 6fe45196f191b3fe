use Rattle.std.proofs.Common.{◌≡◌, ◌++◌, map, drop}
use Rattle.referencing.proofs.registry.Registry.indexes.Given as goal

abbrev pub invariant-loop-parent : goal.invariant-loop-parent
invariant-loop-parent l =
    (map (λ p. p.now) l.indexes.items ++ map (λ p. p.now) (drop l.parent-index l.parent-items) ≡ l.self)
