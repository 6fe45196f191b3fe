use Rattle.std.proofs.Common.{◌≡◌, ◌++◌, map, flat_map, take}
use Rattle.ref_parts.specs.Table.{entries_of}
use Rattle.ref_findings.specs.Sources.{unread_uri}
use Rattle.ref_findings.specs.Entries.{source_of}
use Rattle.ref_findings.proofs.bearers.push_all_unread.Given as goal

abbrev pub invariant-loop-source : goal.invariant-loop-source
invariant-loop-source l = entries_of l.entries.items ≡ entries_of l.initial.entries.items ++ flat_map unread_uri (map source_of (take l.source-index l.sources))
