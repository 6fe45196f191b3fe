-- Entries of references, and the errors in them.
use Rattle.std.specs.Prelude.{◌≡◌, List, [], ◌∷◌, Option, Some, None, Result, Ok, Err}
use Rattle.ref_definitions.specs.Fault.{Fault}
use Rattle.ref_definitions.specs.Lookup.{Found}
use Rattle.ref_error.specs.declared.error.Error.{Error}
use Rattle.ref_error.specs.Errors.{SaysFault}
use Rattle.ref_lint.specs.declared.entry.Dangling.{Dangling}
use Rattle.ref_lint.specs.Dangling.{DanglingReference}
use Rattle.ref_lint.specs.Entries.{IsEntryOf}

-- the error says the fault that an answer is, or there is none of either
abbrev pub IsWhy : Result Found Fault → Option Error → Type 0
IsWhy answer None = (found : Found) × (answer ≡ Ok found)
IsWhy answer (Some error) = (fault : Fault) × (answer ≡ Err fault) × SaysFault error fault

-- the entry is that of the one reference, or there is none of either
abbrev pub AreEntries : List DanglingReference → Option Dangling → Type 0
AreEntries references None = references ≡ []
AreEntries references (Some entry) =
    (r : DanglingReference) × (references ≡ r ∷ []) × IsEntryOf entry r
