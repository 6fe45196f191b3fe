-- Why a run ends too early, as it is displayed.
use Rattle.std.specs.Prelude.{ℕ, List, codes}
use Rattle.ref_streams.specs.declared.error.RunError.{RunError}
use Rattle.ref_streams.specs.declared.error.RunError.TheVariants.{Read, Write, Memory}

-- what is displayed
abbrev pub run_error_text : RunError → List ℕ
run_error_text Read = codes "cannot read"
run_error_text Write = codes "cannot write"
run_error_text Memory = codes "out of memory"
