use Rattle.std.proofs.Common.{◌≡◌, ◌++◌, All, drop, option_map, IsTrue}
use Rattle.ref_yaml.specs.Escapes.{nothing_read, unescaped, unescaped_from}
use Rattle.ref_yaml.specs.Passing.{IsWithoutMark, reading_of}
use Rattle.ref_yaml.proofs.escape.unescaped_line.Given as goal

abbrev pub invariant-loop-byte : goal.invariant-loop-byte
invariant-loop-byte l = (IsTrue l.is_outside → reading_of l.reading ≡ nothing_read)
    × (All (IsWithoutMark 10) (drop l.byte-index l.rest) → All (IsWithoutMark 10) l.source)
    × (option_map (λ s. l.out.items ++ s) (unescaped_from (reading_of l.reading) (drop l.byte-index l.rest)) ≡ unescaped l.source)
