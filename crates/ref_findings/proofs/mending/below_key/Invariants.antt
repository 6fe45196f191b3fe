use Rattle.std.proofs.Common.{◌≡◌, map, flat_map, take}
use Rattle.ref_paths.specs.Path.{Key}
use Rattle.ref_findings.specs.Mending.{rests}
use Rattle.ref_findings.specs.inner.Seen.{lent_path}
use Rattle.ref_findings.proofs.mending.below_key.Given as goal

abbrev pub invariant-loop-path : goal.invariant-loop-path
invariant-loop-path l = map lent_path l.list.items ≡ rests (Key l.key) (map lent_path (take l.path-index l.paths))
