use Rattle.std.proofs.Common.{List, map, drop}
use Rattle.std.specs.List.{AllZip}
use Rattle.ref_findings.specs.Findings.{Finding}
use Rattle.ref_findings.specs.Entries.{SaysFindings}
use Rattle.ref_calls.specs.Given.{given_of}
use Rattle.ref_serve.specs.inner.Mended.{tree_maybe}
use Rattle.ref_serve.proofs.Passing.{AreMended}
use Rattle.ref_serve.proofs.mending.trees_in_place.Given as goal

abbrev pub invariant-loop-number : goal.invariant-loop-number
invariant-loop-number l =
    (fss : List (List Finding)) → AllZip SaysFindings l.found fss → AreMended (map given_of l.documents) (map given_of (drop l.number l.documents)) (map tree_maybe l.trees.items) (drop l.number l.found) fss
