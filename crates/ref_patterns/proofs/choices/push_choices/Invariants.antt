use Rattle.std.proofs.Common.{◌≡◌, ◌++◌, map, take, Vec, ℕ}
use Rattle.std.specs.declared.alloc.Global.{Global}
use Rattle.ref_patterns.specs.Choices as spec
use Rattle.ref_patterns.proofs.choices.push_choices.Given as goal

abbrev pub invariant-loop-choice : goal.invariant-loop-choice
invariant-loop-choice l =
    spec.lists_of l.all
    ≡ spec.lists_of l.fn.all ++ map (λ choice. (l.text ++ l.before) ++ choice) (map (λ (c : Vec ℕ Global). c.items) (take l.choice-index l.choices))
