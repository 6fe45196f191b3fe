-- What is added to lists.
use Rattle.std.specs.Prelude.{◌≡◌, ℕ, List, ◌++◌, map, Bool, true, false, slice_get, Some, None}
use Rattle.ref_reach.specs.declared.place.Place as rust
use Rattle.ref_reach.specs.Places.{Place, below_place}
use Rattle.ref_reach.specs.Views.{place_of}

-- these were added at the end
abbrev pub AddsPlaces : List Place → List rust.Place → List rust.Place → Type 0
AddsPlaces more old new = map place_of new ≡ map place_of old ++ more

-- what is right below the place with a number was added, or there is no such place
abbrev pub IsBelowAdded : ℕ → List Place → List Place → Bool → Type 0
IsBelowAdded number old new true =
    (p : Place) × (slice_get old number ≡ Some p) × (new ≡ old ++ below_place p)
IsBelowAdded number old new false = (slice_get old number ≡ None) × (new ≡ old)
