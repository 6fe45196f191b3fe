-- What a call gives that may run out of memory.
use Rattle.std.specs.Prelude.{◌≡◌, Result, Ok, Err}
use Rattle.ref_json.specs.declared.stop.Stop.{Stop}
use Rattle.ref_json.specs.declared.stop.Stop.TheVariants.{Memory, Because}

-- the definition gives this error, unless memory ran out
abbrev pub Stops : {F Y G : Type 0} → (F → G) → Stop F → Result Y G → Type 0
Stops seen Memory defined = Unit {0}
Stops seen (Because f) defined = defined ≡ Err (seen f)

-- A call returned what the definition gives, unless memory ran out: its value and its error as the two functions see them.
abbrev pub Answers : {X Y F G : Type 0} → (X → Y) → (F → G) → Result X (Stop F) → Result Y G
    → Type 0
Answers view seen (Ok x) defined = defined ≡ Ok (view x)
Answers view seen (Err e) defined = Stops seen e defined
