use Rattle.std.proofs.Common.{◌≡◌, ◌<◌, ℕ, false}
use Rattle.ref_positions.specs.Lines.{is_beyond}
use Rattle.ref_positions.proofs.position.Position.at_unit.Given as goal

abbrev pub invariant-loop-passed : goal.invariant-loop-passed
invariant-loop-passed l =
    (l.place.text.now ≡ l.text) × (l.place.offset ≡ l.passed)
    × ((k : ℕ) → k < l.passed → is_beyond l.text l.line l.unit k ≡ false)
