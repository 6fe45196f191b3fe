-- What texts are settled to mean.
use Rattle.std.specs.Prelude.{◌≡◌, Bool, true, false, map, Option, Some, None, Result, Ok, Err}
use Rattle.ref_paths.specs.Segment.{part_of}
use Rattle.ref_error.specs.declared.error.Error.{Error}
use Rattle.ref_error.specs.declared.error.Error.TheVariants as error
use Rattle.ref_error.specs.Errors.{SaysFault}
use Rattle.ref_definitions.specs.Fault.{Fault}
use Rattle.ref_definitions.specs.Lookup.{Found}
use Rattle.ref_findings.specs.Bearers.{Site}
use Rattle.ref_findings.specs.declared.finding.Bearer.{Bearer}
use Rattle.ref_findings.specs.declared.finding.Problem as rust_problem
use Rattle.ref_findings.specs.Findings.{Problem}
use Rattle.ref_findings.specs.Entries.{IsProblemOf}

-- the program says what is wrong, or nothing is
abbrev pub IsMaybe : Option Problem → Option rust_problem.Problem → Type 0
IsMaybe problem None = problem ≡ None
IsMaybe problem (Some said) = (p : Problem) × (problem ≡ Some p) × IsProblemOf said p

-- whether an error is that a document could not be retrieved
abbrev pub is_unretrievable : Error → Bool
is_unretrievable (error.Unretrievable uri source) = true
is_unretrievable other = false

-- the error says the fault that an answer is, or there is none of either
abbrev pub IsWhy : Result Found Fault → Option Error → Type 0
IsWhy answer None = (found : Found) × (answer ≡ Ok found)
IsWhy answer (Some said) = (fault : Fault) × (answer ≡ Err fault) × SaysFault said fault

-- the bearer is the place, or there is none of either
abbrev pub IsBearer : Option Site → Option Bearer → Type 0
IsBearer site None = site ≡ None
IsBearer site (Some bearer) =
    (s : Site) × (site ≡ Some s) × (bearer.source ≡ s.0)
    × (map part_of bearer.path.items ≡ s.1.path)
