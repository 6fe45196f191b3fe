-- What a look-up among steps leads to.
use Rattle.std.specs.Prelude.{Result, Ok}
use Rattle.ref_definitions.specs.Fault.{Fault}
use Rattle.ref_definitions.specs.Results.{◌>>=◌}
use Rattle.ref_definitions.specs.Follow as world
use Rattle.ref_definitions.specs.Lookup.{Found}

-- what a look-up finds, as that of a step
abbrev pub after_found : Result Found Fault → Result world.Followed Fault
after_found found = found >>= λ f. Ok (world.after_lookup f)
