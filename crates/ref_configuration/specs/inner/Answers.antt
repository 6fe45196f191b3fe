-- What a step gives that may run out of memory.
use Rattle.std.specs.Prelude.{◌≡◌, ℕ, List, None, Result, Ok, Err, string_bytes}
use Rattle.toml.specs.Parse.{parse_document}
use Rattle.ref_configuration.specs.declared.configuration.Refusal.{Refusal}
use Rattle.ref_configuration.specs.declared.configuration.Refusal.TheVariants as refusal
use Rattle.ref_configuration.specs.declared.fault.Stop.{Stop}
use Rattle.ref_configuration.specs.declared.fault.Stop.TheVariants.{Memory, Wrong}
use Rattle.ref_configuration.specs.Members.{Fault}
use Rattle.ref_configuration.specs.View.{fault}
use Rattle.ref_configuration.specs.Refusals.{IsNoToml, IsFault}

-- it stops with this fault, or memory ran out
abbrev pub IsStop : Stop → Fault → Type 0
IsStop Memory f = Unit {0}
IsStop (Wrong own) f = f ≡ fault own

-- the definition gives this fault, unless memory ran out
abbrev pub Stops : {Y : Type 0} → Stop → Result Y Fault → Type 0
Stops Memory defined = Unit {0}
Stops (Wrong own) defined = defined ≡ Err (fault own)

-- a step returned what the definition gives, unless memory ran out: its value as the function sees it, or its fault
abbrev pub Answers : {X Y : Type 0} → (X → Y) → Result X Stop → Result Y Fault → Type 0
Answers seen (Ok x) defined = defined ≡ Ok (seen x)
Answers seen (Err stop) defined = Stops stop defined

-- ---- a refusal

-- a text is refused as no TOML, unless memory ran out
abbrev pub IsUnread : List ℕ → Refusal → Type 0
IsUnread text refusal.Memory = Unit {0}
IsUnread text (refusal.At line column said) =
    (parse_document text ≡ None) × IsNoToml text line column (string_bytes said)

-- a text is refused with a fault and the place where it is, unless memory ran out
abbrev pub IsPlaced : List ℕ → Fault → Refusal → Type 0
IsPlaced text f refusal.Memory = Unit {0}
IsPlaced text f (refusal.At line column said) = IsFault text line column (string_bytes said) f
