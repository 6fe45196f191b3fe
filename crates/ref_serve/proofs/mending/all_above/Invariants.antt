use Rattle.std.proofs.Common.{◌≡◌, List, length}
use Rattle.std.specs.List.{AllZip}
use Rattle.std.specs.Vec.Iter.{into_iter_items, into_iter_len}
use Rattle.ref_findings.specs.Findings.{Finding}
use Rattle.ref_findings.specs.Entries.{SaysFindings}
use Rattle.ref_serve.specs.Mending.{unmet_above}
use Rattle.ref_serve.specs.inner.Mended.{world_above}
use Rattle.ref_serve.proofs.Passing.{AreMade}
use Rattle.ref_serve.proofs.mending.all_above.Given as goal

abbrev pub invariant-loop-list : goal.invariant-loop-list
invariant-loop-list l =
    ((fss : List (List Finding)) → AllZip SaysFindings l.fn.found.items fss → AreMade (unmet_above (world_above l.fn.above)) SaysFindings (into_iter_items l.list-iterator) l.lists.items fss)
    × (into_iter_len l.list-iterator ≡ length (into_iter_items l.list-iterator))
