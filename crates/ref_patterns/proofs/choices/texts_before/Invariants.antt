use Rattle.std.proofs.Common.{◌≡◌, ◌++◌, map, take, Vec, ℕ}
use Rattle.std.specs.declared.alloc.Global.{Global}
use Rattle.ref_patterns.specs.Choices as spec
use Rattle.ref_patterns.proofs.choices.texts_before.Given as goal

abbrev pub invariant-loop-text : goal.invariant-loop-text
invariant-loop-text l =
    spec.lists_of l.texts
    ≡ map (λ text. text ++ l.read.before.items) (map (λ (t : Vec ℕ Global). t.items) (take l.text-index l.text-items))
