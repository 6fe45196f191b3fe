use Rattle.std.proofs.Common.{◌≡◌, ◌≤◌, ◌++◌, [], false, drop}
use Rattle.ref_yaml.specs.Flow.{folded}
use Rattle.ref_yaml.proofs.fold.folded.Given as goal

abbrev pub invariant-loop-byte : goal.invariant-loop-byte
invariant-loop-byte l = (l.breaks ≤ l.byte-index) × (l.out.items ++ folded l.escapes l.is_escaped l.white.items l.breaks l.is_joined (drop l.byte-index l.source) ≡ folded l.escapes false [] 0 false l.source)
