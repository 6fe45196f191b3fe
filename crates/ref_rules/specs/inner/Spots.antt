-- Places that are added.
use Rattle.std.specs.Prelude.{◌≡◌, ℕ, List, ◌++◌, Bool, true, false, Some, None, slice_get}
use Rattle.ref_rules.specs.Slips.{Place}
use Rattle.ref_rules.specs.Places.{below}

-- what is right below the place with a number was added, or there is no such place
abbrev pub IsBelowAdded : ℕ → List Place → List Place → Bool → Type 0
IsBelowAdded number old new true =
    (p : Place) × (slice_get old number ≡ Some p) × (new ≡ old ++ below p)
IsBelowAdded number old new false = (slice_get old number ≡ None) × (new ≡ old)
