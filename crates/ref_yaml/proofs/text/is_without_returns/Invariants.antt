use Rattle.std.proofs.Common.{◌≡◌, All, drop, false}
use Rattle.ref_yaml.specs.Passing.{IsNoReturn}
use Rattle.ref_yaml.proofs.text.is_without_returns.Given as goal

abbrev pub invariant-loop-byte : goal.invariant-loop-byte
invariant-loop-byte l = l.has_one ≡ false → All IsNoReturn (drop l.byte-index l.source) → All IsNoReturn l.source
