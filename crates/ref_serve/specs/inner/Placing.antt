-- What is seen of an error of `open` that is told with its place.
use Rattle.std.specs.Prelude.{◌≡◌, ℕ, Bool, true, false, List, codes, bytes_eq, Option, None, Some, Err}
use Rattle.serde_json.specs.Data.{Data}
use Rattle.serde_json.specs.View.{view}
use Rattle.serde_json.specs.declared.value.Value.{Value}
use Rattle.ref_json.specs.declared.stop.Stop.{Stop}
use Rattle.ref_json.specs.declared.stop.Stop.TheVariants.{Memory, Because}
use Rattle.ref_serve.specs.declared.placing.Whose.{Whose}
use Rattle.ref_serve.specs.declared.placing.Whose.TheVariants.{Own, Parent, Other}
use Rattle.ref_serve.specs.Answering.{IsPlaced}

-- whose document an error is about, by the text under `field`
abbrev pub IsWhose : Whose → Option (List ℕ) → Type 0
IsWhose Own field = field ≡ None
IsWhose Parent field = field ≡ Some (codes "parent")
IsWhose Other None = ⊥
IsWhose Other (Some field) = bytes_eq field (codes "parent") ≡ false

-- the error with its place, unless memory ran out
abbrev pub IsPlacedStop : Data → Data → Stop Value → Type 0
IsPlacedStop d error Memory = Unit {0}
IsPlacedStop d error (Because value) = IsPlaced d (Err error) (Err (view value))
