use Rattle.std.proofs.Common.{◌≡◌, ◌≤◌, length}
use Rattle.ref_positions.proofs.position.Position.moved_to.Given as goal

abbrev pub invariant-loop-at : goal.invariant-loop-at
invariant-loop-at l = (l.place.text.now ≡ l.fn.self.text.now) × (l.fn.self.offset ≤ l.fn.offset → l.fn.offset ≤ length l.fn.self.text.now → l.place.offset ≡ l.at)
