-- The exit status of a run.
use Rattle.std.specs.Prelude.{◌≡◌, ℕ, Result, Ok, Err}
use Rattle.ref_streams.specs.declared.error.RunError.{RunError}
use Rattle.ref_streams.specs.declared.error.RunError.TheVariants.{Read, Write, Memory}
use Rattle.ref_report.specs.declared.status.Status.{Status}
use Rattle.ref_report.specs.declared.status.Status.TheVariants.{Done, Fault, BadRequest}

-- a report's status as a program's exit status
abbrev pub status_number : Status → ℕ
status_number Done = 0
status_number Fault = 1
status_number BadRequest = 2

-- the program's exit status: that of the report, or 3 where there is none
abbrev pub exit_status : Result Status RunError → ℕ
exit_status (Ok status) = status_number status
exit_status (Err error) = 3

-- the exit status of each status, and of each run without one
abbrev pub ExitRows : Type 0
ExitRows =
    (exit_status (Ok Done) ≡ 0) × (exit_status (Ok Fault) ≡ 1) × (exit_status (Ok BadRequest) ≡ 2)
    × (exit_status (Err Read) ≡ 3) × (exit_status (Err Write) ≡ 3) × (exit_status (Err Memory) ≡ 3)
