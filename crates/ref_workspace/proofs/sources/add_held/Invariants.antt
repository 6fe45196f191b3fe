use Rattle.std.proofs.Common.{◌≡◌, ◌++◌, map, take}
use Rattle.ref_findings.specs.Entries.{source_of}
use Rattle.ref_findings.specs.Held.{held_source}
use Rattle.ref_workspace.proofs.sources.add_held.Given as goal

abbrev pub invariant-loop-document : goal.invariant-loop-document
invariant-loop-document l =
    map source_of l.list.items ≡ map source_of l.initial.list.items ++ map held_source (take l.document-index l.held)
