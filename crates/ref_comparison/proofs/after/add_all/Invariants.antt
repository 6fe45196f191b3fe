use Rattle.std.proofs.Common.{◌≡◌, ℕ, List, ◌++◌, map, flat_map, take}
use Rattle.ref_reach.specs.Views.{place_of}
use Rattle.ref_comparison.specs.inner.Grouped.{Lists, list_of, placed_at, group_in}
use Rattle.ref_comparison.proofs.after.add_all.Given as goal

abbrev pub invariant-loop-index : goal.invariant-loop-index
invariant-loop-index l =
    (lists : Lists) → list_of lists l.list ≡ map place_of l.places → (q : List ℕ)
    → group_in lists l.numbers q ≡ group_in lists l.initial.numbers q ++ flat_map (placed_at q) (map place_of (take l.index l.places))
