use Rattle.std.proofs.Common.{◌≡◌, map, flat_map, take}
use Rattle.std.specs.List.{enumerate_from}
use Rattle.ref_parts.specs.Table.{entries_of}
use Rattle.ref_findings.specs.Bearers.{uri_entries}
use Rattle.ref_findings.specs.inner.Seen.{site_of}
use Rattle.ref_findings.proofs.bearers.uri_entries.Given as goal

abbrev pub invariant-loop-number : goal.invariant-loop-number
invariant-loop-number l = entries_of l.entries.items ≡ flat_map uri_entries (enumerate_from 0 (map site_of (take l.number l.sites)))
