use Rattle.std.proofs.Common.{◌≡◌, drop}
use Rattle.ref_yaml.specs.Core.{without_zeros}
use Rattle.ref_yaml.proofs.number.without_zeros.Given as goal

abbrev pub invariant-loop-at : goal.invariant-loop-at
invariant-loop-at l = without_zeros l.digits ≡ without_zeros (drop l.at l.digits)
