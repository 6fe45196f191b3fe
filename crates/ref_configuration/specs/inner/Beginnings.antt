-- What the program says of the beginning of a text.
use Rattle.std.specs.Prelude.{Bool, true, false, Option, Some, None}
use Rattle.ref_configuration.specs.declared.place.State.{State}
use Rattle.ref_configuration.specs.declared.place.State.TheVariants.{Has, Lacks, Open}

-- whether it has a member, where it is TOML
abbrev pub told : State → Option Bool
told Has = Some true
told Lacks = Some false
told Open = None
