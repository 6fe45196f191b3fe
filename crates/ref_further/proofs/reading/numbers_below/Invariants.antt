use Rattle.std.proofs.Common.{◌≡◌}
use Rattle.ref_further.specs.Further.{numbers_below}
use Rattle.ref_further.proofs.reading.numbers_below.Given as goal

abbrev pub invariant-loop-number : goal.invariant-loop-number
invariant-loop-number l = l.numbers.items ≡ numbers_below l.number
