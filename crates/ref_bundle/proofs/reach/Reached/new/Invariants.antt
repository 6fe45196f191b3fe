use Rattle.std.proofs.Common.{◌≡◌, ℕ, false, length}
use Rattle.ref_bundle.specs.inner.Reach.{is_marked}
use Rattle.ref_bundle.proofs.reach.Reached.new.Given as goal

abbrev pub invariant-loop-number : goal.invariant-loop-number
invariant-loop-number l = (length l.marks.items ≡ l.number) × ((n : ℕ) → is_marked l.marks.items n ≡ false)
