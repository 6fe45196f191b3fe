use Rattle.std.proofs.Common.{◌≡◌, map, take}
use Rattle.ref_findings.specs.inner.Seen.{lent_path, own_path}
use Rattle.ref_findings.proofs.mending.lent.Given as goal

abbrev pub invariant-loop-path : goal.invariant-loop-path
invariant-loop-path l = map lent_path l.list.items ≡ map own_path (take l.path-index l.paths)
