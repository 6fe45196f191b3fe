use Rattle.std.proofs.Common.{◌≡◌, ◌≤◌, map}
use Rattle.ref_configuration.specs.Places.{has}
use Rattle.ref_configuration.proofs.Beginnings.{left_after}
use Rattle.ref_configuration.proofs.place.after_lacking.Given as goal

abbrev pub invariant-loop-end : goal.invariant-loop-end
invariant-loop-end l =
    (left_after (has (map (λ k. k.now) l.above) l.item l.name) l.text l.begin l.end ≡ left_after (has (map (λ k. k.now) l.above) l.item l.name) l.text 0 0)
    × (l.begin ≤ l.end)
