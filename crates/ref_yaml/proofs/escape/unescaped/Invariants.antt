use Rattle.std.proofs.Common.{◌≡◌, ◌++◌, drop, option_map}
use Rattle.ref_yaml.specs.Escapes.{unescaped, unescaped_from}
use Rattle.ref_yaml.specs.Passing.{reading_of}
use Rattle.ref_yaml.proofs.escape.unescaped.Given as goal

abbrev pub invariant-loop-byte : goal.invariant-loop-byte
invariant-loop-byte l = option_map (λ s. l.out.items ++ s) (unescaped_from (reading_of l.reading) (drop l.byte-index l.source)) ≡ unescaped l.source
