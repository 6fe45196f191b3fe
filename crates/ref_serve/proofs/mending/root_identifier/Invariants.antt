use Rattle.std.proofs.Common.{List, drop}
use Rattle.std.specs.List.{AllZip}
use Rattle.ref_findings.specs.Findings.{Finding}
use Rattle.ref_findings.specs.Entries.{IsFindingOf}
use Rattle.ref_serve.proofs.Passing.{IsSought}
use Rattle.ref_serve.proofs.mending.root_identifier.Given as goal

abbrev pub invariant-loop-finding : goal.invariant-loop-finding
invariant-loop-finding l = (fs : List Finding) → AllZip IsFindingOf l.found fs → IsSought (drop l.finding-index l.found) fs
