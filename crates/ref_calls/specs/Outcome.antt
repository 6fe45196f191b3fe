-- What a call gives that may run out of memory: a value, or an error object.
use Rattle.std.specs.Prelude.{◌≡◌, Result, Ok, Err}
use Rattle.serde_json.specs.Data.{Data}
use Rattle.serde_json.specs.View.{view}
use Rattle.serde_json.specs.declared.value.Value.{Value}
use Rattle.ref_json.specs.declared.stop.Stop.{Stop}
use Rattle.ref_json.specs.declared.stop.Stop.TheVariants.{Memory, Because}
use Rattle.ref_json.specs.Outcome as json

-- it stops with this error object, or memory ran out
abbrev pub IsStop : Stop Value → Data → Type 0
IsStop Memory error = Unit {0}
IsStop (Because value) error = view value ≡ error

-- the definition gives this error object, unless memory ran out
abbrev pub Stops : {Y : Type 0} → Stop Value → Result Y Data → Type 0
Stops stop defined = json.Stops view stop defined

-- A call returned what the definition gives, unless memory ran out: its value as the function sees it, or its error object.
abbrev pub Answers : {X Y : Type 0} → (X → Y) → Result X (Stop Value) → Result Y Data → Type 0
Answers seen result defined = json.Answers seen view result defined

-- a stop that is changed: its error object so, and out of memory stays
abbrev pub IsChanged : (Data → Data) → Stop Value → Stop Value → Type 0
IsChanged change Memory result = result ≡ Memory
IsChanged change (Because value) result = IsStop result (change (view value))

-- a call gives what it may, unless memory ran out: its result or its error object
abbrev pub Gives : (Result Data Data → Type 0) → Result Value (Stop Value) → Type 0
Gives may (Ok value) = may (Ok (view value))
Gives may (Err Memory) = Unit {0}
Gives may (Err (Because value)) = may (Err (view value))
