use Rattle.std.proofs.Common.{◌≡◌, ◌++◌, drop}
use Rattle.ref_calls.specs.Why.{with_halves}
use Rattle.ref_calls.proofs.why.halves_read.Given as goal

abbrev pub invariant-loop-byte : goal.invariant-loop-byte
invariant-loop-byte l = l.read.items ++ with_halves l.a l.b (drop l.byte-index l.text) ≡ with_halves 0 0 l.text
