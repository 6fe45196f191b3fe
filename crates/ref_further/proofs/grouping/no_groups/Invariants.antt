use Rattle.std.proofs.Common.{◌≡◌, ℕ, [], length}
use Rattle.ref_bundle.specs.Needed.{further_in}
use Rattle.ref_bundle.specs.Saying.{further_of}
use Rattle.ref_further.proofs.grouping.no_groups.Given as goal

abbrev pub invariant-loop-number : goal.invariant-loop-number
invariant-loop-number l = (length l.groups.items ≡ l.number) × ((n : ℕ) → further_in (further_of l.groups.items) n ≡ [])
