use Rattle.std.proofs.Common.{◌≡◌, ◌-◌, ◌≤◌, ◌∷◌, map, take, drop, vec_len, false}
use Rattle.std.specs.List.{AllByRecursion}
use Rattle.ref_definitions.specs.World.{Layer}
use Rattle.ref_definitions.specs.Wants.{is_open}
use Rattle.ref_index.specs.Spots.{numbered_resources}
use Rattle.ref_index.specs.inner.Found.{FoundLists, Holds}
use Rattle.ref_index.proofs.open.first_open.Given as goal

abbrev pub invariant-loop-number : goal.invariant-loop-number
invariant-loop-number l =
    (l.from ≤ l.number) × (l.number ≤ vec_len l.found.wants)
    × ((layer : Layer) (held : FoundLists) → Holds layer l.found held → held.resources ≡ numbered_resources layer
    → AllByRecursion (λ w. is_open (layer ∷ map (λ p. p.now) l.parents) w ≡ false) (drop l.from (take l.number held.wants)))

abbrev pub decreases-loop-number : goal.decreases-loop-number
decreases-loop-number l = vec_len l.found.wants - l.number
