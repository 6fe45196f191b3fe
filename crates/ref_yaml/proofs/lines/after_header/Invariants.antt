use Rattle.std.proofs.Common.{◌≡◌, drop}
use Rattle.ref_yaml.specs.Block.{after_header}
use Rattle.ref_yaml.proofs.lines.after_header.Given as goal

abbrev pub invariant-loop-at : goal.invariant-loop-at
invariant-loop-at l = after_header l.source ≡ after_header (drop l.at l.source)
