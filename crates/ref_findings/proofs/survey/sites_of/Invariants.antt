use Rattle.std.proofs.Common.{◌≡◌, map, flat_map, take}
use Rattle.std.specs.List.{enumerate_from}
use Rattle.ref_findings.specs.Bearers.{numbered_sites}
use Rattle.ref_findings.specs.inner.Seen.{seen_survey, site_of}
use Rattle.ref_findings.proofs.survey.sites_of.Given as goal

abbrev pub invariant-loop-number : goal.invariant-loop-number
invariant-loop-number l = map site_of l.sites.items ≡ flat_map numbered_sites (enumerate_from 0 (map (λ s. (seen_survey s).places) (take l.number l.surveys)))
