use Rattle.std.proofs.Common.{◌≡◌, All}
use Rattle.ref_positions.specs.declared.position.Position.{Position}
use Rattle.ref_positions.proofs.table.positions_of.Given as goal

abbrev pub invariant-loop-offset : goal.invariant-loop-offset
invariant-loop-offset l = (l.last.text.now ≡ l.text) × (All (λ (p : Position). p.text.now ≡ l.text) l.positions.items)
