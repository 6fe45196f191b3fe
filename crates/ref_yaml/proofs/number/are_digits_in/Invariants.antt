use Rattle.std.proofs.Common.{◌≡◌, drop}
use Rattle.ref_yaml.specs.Core.{are_digits_in}
use Rattle.ref_yaml.proofs.number.are_digits_in.Given as goal

abbrev pub invariant-loop-byte : goal.invariant-loop-byte
invariant-loop-byte l = are_digits_in l.radix l.digits ≡ are_digits_in l.radix (drop l.byte-index l.digits)
