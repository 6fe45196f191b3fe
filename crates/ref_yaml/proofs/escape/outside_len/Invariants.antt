use Rattle.std.proofs.Common.{◌≡◌, ◌++◌, All, drop, option_map, take}
use Rattle.ref_yaml.specs.Escapes.{unescaped}
use Rattle.ref_yaml.specs.Passing.{IsWithoutMark}
use Rattle.ref_yaml.proofs.escape.outside_len.Given as goal

abbrev pub invariant-loop-at : goal.invariant-loop-at
invariant-loop-at l = (All (IsWithoutMark 10) (drop l.at l.source) → All (IsWithoutMark 10) l.source)
    × (option_map (λ s. take l.at l.source ++ s) (unescaped (drop l.at l.source)) ≡ unescaped l.source)
