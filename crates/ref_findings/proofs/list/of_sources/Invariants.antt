use Rattle.std.proofs.Common.{map, flat_map, take}
use Rattle.std.specs.List.{AllZip, enumerate_from}
use Rattle.ref_findings.specs.Findings.{whole_findings}
use Rattle.ref_findings.specs.Entries.{source_of, IsFindingOf}
use Rattle.ref_findings.proofs.list.of_sources.Given as goal

abbrev pub invariant-loop-number : goal.invariant-loop-number
invariant-loop-number l = AllZip IsFindingOf l.list.items (flat_map whole_findings (enumerate_from 0 (map source_of (take l.number l.sources))))
