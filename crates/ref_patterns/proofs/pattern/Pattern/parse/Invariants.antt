use Rattle.std.proofs.Common.{◌≡◌, map, take, Vec, ℕ}
use Rattle.std.specs.declared.alloc.Global.{Global}
use Rattle.ref_patterns.specs.Patterns.{parts_in, parts_of}
use Rattle.ref_patterns.proofs.pattern.Pattern.parse.Given as goal

abbrev pub invariant-loop-text : goal.invariant-loop-text
invariant-loop-text l = parts_in l.alternatives.items ≡ map parts_of (map (λ (t : Vec ℕ Global). t.items) (take l.text-index l.text-items))
