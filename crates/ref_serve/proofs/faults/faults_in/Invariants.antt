use Rattle.std.proofs.Common.{◌≡◌, map, length}
use Rattle.std.specs.Vec.Iter.{into_iter_items, into_iter_len}
use Rattle.serde_json.specs.View.{view}
use Rattle.ref_findings.specs.Entries.{source_of}
use Rattle.ref_findings.specs.Findings.{findings}
use Rattle.ref_serve.proofs.FaultyList.{IsLeft, objects_of}
use Rattle.ref_serve.proofs.faults.faults_in.Given as goal

abbrev pub invariant-loop-finding : goal.invariant-loop-finding
invariant-loop-finding l =
    IsLeft (into_iter_items l.finding-iterator) (map view l.list.items) (objects_of (findings l.fn.draft (map source_of l.fn.sources) (map source_of l.fn.held)))
    × (into_iter_len l.finding-iterator ≡ length (into_iter_items l.finding-iterator))
