use Rattle.std.proofs.Common.{◌≡◌, ◌++◌, List, map, length}
use Rattle.std.specs.Vec.Iter.{into_iter_items, into_iter_len}
use Rattle.serde_json.specs.View.{view}
use Rattle.ref_findings.specs.Findings.{Finding}
use Rattle.ref_findings.specs.Entries.{SaysFindings}
use Rattle.ref_serve.proofs.FaultyList.{IsLeft, objects_of}
use Rattle.ref_serve.proofs.mending.push_findings.Given as goal

abbrev pub invariant-loop-finding : goal.invariant-loop-finding
invariant-loop-finding l =
    ((fs : List Finding) → SaysFindings l.fn.found fs → IsLeft (into_iter_items l.finding-iterator) (map view l.faults.items) (map view l.initial.faults.items ++ objects_of fs))
    × (into_iter_len l.finding-iterator ≡ length (into_iter_items l.finding-iterator))
