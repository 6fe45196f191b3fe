use Rattle.std.proofs.Common.{◌≡◌, ◌++◌, map, take}
use Rattle.ref_findings.specs.Bearers.{numbered_sites}
use Rattle.ref_findings.specs.inner.Seen.{place_of, site_of}
use Rattle.ref_findings.proofs.survey.push_sites.Given as goal

abbrev pub invariant-loop-place : goal.invariant-loop-place
invariant-loop-place l = map site_of l.sites.items ≡ map site_of l.initial.sites.items ++ numbered_sites (l.source, map place_of (take l.place-index l.places))
