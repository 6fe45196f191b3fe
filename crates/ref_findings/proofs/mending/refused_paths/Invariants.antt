use Rattle.std.proofs.Common.{◌≡◌, map, flat_map, take}
use Rattle.ref_findings.specs.Mending.{refused_at}
use Rattle.ref_findings.specs.inner.Seen.{place_of, own_path}
use Rattle.ref_findings.proofs.mending.refused_paths.Given as goal

abbrev pub invariant-loop-place : goal.invariant-loop-place
invariant-loop-place l = map own_path l.paths.items ≡ flat_map refused_at (map place_of (take l.place-index l.places))
