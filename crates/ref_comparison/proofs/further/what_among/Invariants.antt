use Rattle.std.proofs.Common.{◌≡◌, false, flat_map}
use Rattle.ref_reach.specs.Views.{place_of}
use Rattle.ref_comparison.specs.Further.{whats_among}
use Rattle.ref_comparison.specs.Views.{sides_of}
use Rattle.ref_comparison.specs.inner.Grouped.{with_number, lists_in}
use Rattle.ref_comparison.proofs.Telling.{among_from}
use Rattle.ref_comparison.proofs.further.what_among.Given as goal

abbrev pub invariant-loop-number : goal.invariant-loop-number
invariant-loop-number l =
    whats_among (sides_of l.sides) (place_of l.place) (flat_map (with_number (lists_in l.after)) l.numbers) false
    ≡ among_from (with_number (lists_in l.after)) (sides_of l.sides) (place_of l.place) l.numbers l.number-index l.is_any
