use Rattle.std.proofs.Common.{List, ◌++◌, map, flat_map, take, reverse}
use Rattle.std.specs.List.{AllZip, enumerate_from}
use Rattle.ref_findings.specs.Findings.{Finding, guesses_of}
use Rattle.ref_findings.specs.Entries.{IsFindingOf}
use Rattle.ref_findings.specs.inner.Seen.{site_of}
use Rattle.ref_findings.proofs.Guessing.{source_in}
use Rattle.ref_findings.proofs.guessed.add_all.Given as goal

abbrev pub invariant-loop-number : goal.invariant-loop-number
invariant-loop-number l =
    (fs : List Finding) → AllZip IsFindingOf l.initial.list.items fs
    → AllZip IsFindingOf l.list.items (fs ++ flat_map (guesses_of l.referrers.draft (map site_of l.referrers.sites.now) (reverse l.referrers.table.now)) (enumerate_from 0 (map source_in (take l.number l.surveys))))
