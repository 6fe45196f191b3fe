use Rattle.std.proofs.Common.{◌≡◌, take}
use Rattle.ref_parts.specs.Table.{entries_of}
use Rattle.ref_findings.proofs.bearers.copy_of.Given as goal

abbrev pub invariant-loop-first : goal.invariant-loop-first
invariant-loop-first l = entries_of l.copy.items ≡ entries_of (take l.first-index l.entries.items)
