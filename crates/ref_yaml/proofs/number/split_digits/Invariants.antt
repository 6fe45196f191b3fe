use Rattle.std.proofs.Common.{◌≡◌, ◌++◌, take, drop}
use Rattle.ref_yaml.specs.Core.{digits, after_digits}
use Rattle.ref_yaml.proofs.number.split_digits.Given as goal

abbrev pub invariant-loop-at : goal.invariant-loop-at
invariant-loop-at l = (digits l.text ≡ take l.at l.text ++ digits (drop l.at l.text)) × (after_digits l.text ≡ after_digits (drop l.at l.text))
