use Rattle.std.proofs.Common.{◌≡◌, List, map, flat_map, length}
use Rattle.std.specs.List.{AllZip}
use Rattle.std.specs.Vec.Iter.{into_iter_items, into_iter_len}
use Rattle.serde_json.specs.View.{view}
use Rattle.ref_findings.specs.Findings.{Finding}
use Rattle.ref_findings.specs.Entries.{SaysFindings}
use Rattle.ref_serve.specs.Mending.{objects_of}
use Rattle.ref_serve.proofs.Passing.{AreTold}
use Rattle.ref_serve.proofs.mending.faults_in.Given as goal

abbrev pub invariant-loop-list : goal.invariant-loop-list
invariant-loop-list l =
    ((fss : List (List Finding)) → AllZip SaysFindings l.fn.found.items fss → AreTold (into_iter_items l.list-iterator) (map view l.faults.items) (flat_map objects_of fss))
    × (into_iter_len l.list-iterator ≡ length (into_iter_items l.list-iterator))
