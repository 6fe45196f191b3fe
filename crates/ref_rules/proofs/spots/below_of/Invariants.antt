use Rattle.std.proofs.Common.{◌≡◌, map, false}
use Rattle.ref_draft.specs.Views.{walked_child}
use Rattle.ref_rules.specs.Views.{spot_of}
use Rattle.ref_rules.proofs.spots.below_of.Given as goal

abbrev pub invariant-loop-child : goal.invariant-loop-child
invariant-loop-child l =
    map spot_of l.spots.items ≡ map (λ w. record { is_root = false; draft = w.draft; value = w.value }) (map walked_child l.yielded)
