-- The first of what differs.
use Rattle.std.specs.Prelude.{◌≡◌, List, Option, option_map, Result, IfOk}
use Rattle.ref_changes.specs.Changes.{first}
use Rattle.ref_comparison.specs.declared.difference.What as rust_what
use Rattle.ref_comparison.specs.declared.difference.Difference as rust_difference
use Rattle.ref_comparison.specs.Further.{What, Difference}
use Rattle.ref_comparison.specs.Views.{what_of, difference_of}

-- a call that succeeds returns the first of these
abbrev pub SaysFirst : {E : Type 0} → Result (Option rust_what.What) E → List What → Type 0
SaysFirst result whats = IfOk result (λ o. option_map what_of o ≡ first whats)

abbrev pub DiffersFirst : {E : Type 0} → Result (Option rust_difference.Difference) E
    → List Difference → Type 0
DiffersFirst result differences = IfOk result (λ o. option_map difference_of o ≡ first differences)
