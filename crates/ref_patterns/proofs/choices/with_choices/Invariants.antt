use Rattle.std.proofs.Common.{◌≡◌, ◌++◌, map, take, Vec, ℕ}
use Rattle.std.specs.Prelude.{flat_map}
use Rattle.std.specs.declared.alloc.Global.{Global}
use Rattle.ref_patterns.specs.Choices as spec
use Rattle.ref_patterns.proofs.choices.with_choices.Given as goal

abbrev pub invariant-loop-text : goal.invariant-loop-text
invariant-loop-text l =
    spec.lists_of l.all
    ≡ flat_map (λ (t : Vec ℕ Global). map (λ choice. (t.items ++ l.before) ++ choice) (map (λ (c : Vec ℕ Global). c.items) l.choices)) (take l.text-index l.texts)
