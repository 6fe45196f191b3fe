use Rattle.std.proofs.Common.{List, ◌++◌, map, flat_map, take}
use Rattle.std.specs.List.{AllZip, enumerate_from}
use Rattle.ref_findings.specs.Findings.{Finding, findings_at}
use Rattle.ref_findings.specs.Entries.{IsFindingOf}
use Rattle.ref_findings.specs.inner.Seen.{site_of, known_in}
use Rattle.ref_findings.proofs.list.add_sites.Given as goal

abbrev pub invariant-loop-number : goal.invariant-loop-number
invariant-loop-number l =
    (fs : List Finding) → AllZip IsFindingOf l.initial.list.items fs
    → AllZip IsFindingOf l.list.items (fs ++ flat_map (λ e. findings_at (known_in l.known) e.0 e.1) (enumerate_from 0 (map site_of (take l.number l.sites))))
