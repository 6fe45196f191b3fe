use Rattle.std.proofs.Common.{◌≡◌, ◌≤◌, map, length}
use Rattle.ref_descriptions.specs.Views.{reference_of}
use Rattle.ref_reach.specs.Views.{place_of}
use Rattle.ref_changes.specs.Changes.{first}
use Rattle.ref_comparison.specs.Further.{reference_whats}
use Rattle.ref_comparison.specs.Views.{sides_of}
use Rattle.ref_comparison.proofs.Telling.{first_from}
use Rattle.ref_comparison.proofs.pairs.lists_what.Given as goal

abbrev pub invariant-loop-index : goal.invariant-loop-index
invariant-loop-index l =
    (l.index ≤ length l.list)
    × (first (reference_whats (sides_of l.sides) (place_of l.place) (place_of l.other) (map reference_of l.list) (map reference_of l.others))
    ≡ first_from (sides_of l.sides) (place_of l.place) (place_of l.other) (map reference_of l.list) (map reference_of l.others) l.index)
