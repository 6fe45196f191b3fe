-- What is seen of findings that have faults.
use Rattle.std.specs.Prelude.{Option, Some, None, ⊤}
use Rattle.ref_definitions.specs.Fault.{Fault}
use Rattle.ref_error.specs.declared.error.Error.{Error}
use Rattle.ref_error.specs.Errors.{SaysFault}

-- an error says the fault, where there is one
abbrev pub IsMaybeFault : Option Error → Option Fault → Type 0
IsMaybeFault None None = ⊤
IsMaybeFault (Some e) (Some fault) = SaysFault e fault
IsMaybeFault other fault = ⊥
