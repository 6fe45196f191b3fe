use Rattle.std.proofs.Common.{◌≡◌, map, flat_map, take}
use Rattle.ref_findings.specs.inner.Nulled.{said_path}
use Rattle.ref_findings.specs.inner.Seen.{own_path}
use Rattle.ref_findings.proofs.unready.text_paths.Given as goal

abbrev pub invariant-loop-finding : goal.invariant-loop-finding
invariant-loop-finding l = map own_path l.paths.items ≡ flat_map said_path (take l.finding-index l.findings)
