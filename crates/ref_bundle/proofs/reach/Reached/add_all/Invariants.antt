use Rattle.std.proofs.Common.{◌≡◌, drop}
use Rattle.ref_bundle.specs.inner.Reach.{state, all_added}
use Rattle.ref_bundle.proofs.reach.Reached.add_all.Given as goal

abbrev pub invariant-loop-number : goal.invariant-loop-number
invariant-loop-number l = all_added (state l.self) (drop l.number-index l.numbers) ≡ all_added (state l.initial.self) l.numbers
