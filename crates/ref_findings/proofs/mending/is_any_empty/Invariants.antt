use Rattle.std.proofs.Common.{◌≡◌, map, take}
use Rattle.std.specs.List.{list_any}
use Rattle.ref_findings.specs.Mending.{is_empty}
use Rattle.ref_findings.specs.inner.Seen.{lent_path}
use Rattle.ref_findings.proofs.mending.is_any_empty.Given as goal

abbrev pub invariant-loop-path : goal.invariant-loop-path
invariant-loop-path l = l.any ≡ list_any is_empty (map lent_path (take l.path-index l.paths))
