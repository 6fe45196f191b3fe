use Rattle.std.proofs.Common.{◌≡◌, map, flat_map, take}
use Rattle.std.specs.List.{enumerate_from}
use Rattle.ref_parts.specs.Table.{entries_of}
use Rattle.ref_findings.specs.Guessed.{entries_referred}
use Rattle.ref_findings.specs.inner.Seen.{site_of}
use Rattle.ref_findings.proofs.guessed.referred_of.Given as goal

abbrev pub invariant-loop-number : goal.invariant-loop-number
invariant-loop-number l = entries_of l.entries.items ≡ flat_map (entries_referred l.draft) (enumerate_from 0 (map site_of (take l.number l.sites)))
