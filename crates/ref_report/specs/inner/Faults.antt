-- What an error of `referencing` says.
use Rattle.std.specs.Prelude.{◌≡◌, ℕ, List}
use Rattle.std.specs.declared.alloc.AllocError.{AllocError}
use Rattle.ref_definitions.specs.Fault.{Fault}
use Rattle.ref_error.specs.declared.error.Error.{Error}
use Rattle.ref_error.specs.declared.error.Error.TheVariants as error
use Rattle.ref_error.specs.Errors.{SaysFault}
use Rattle.ref_report.specs.Report.{Report, fault_report}

-- the report on the fault that an error says, which is not out of memory
abbrev pub IsReportOn : List ℕ → Error → Report → Type 0
IsReportOn of e report =
    ((memory : AllocError) → ¬ (e ≡ error.Memory memory))
    × ((fault : Fault) → SaysFault e fault → report ≡ fault_report of fault)
