use Rattle.std.proofs.Common.{List, ℕ, map, flat_map, take}
use Rattle.std.specs.List.{AllZip, enumerate_from}
use Rattle.ref_findings.specs.Entries.{SaysFindings}
use Rattle.ref_findings.specs.Unmet.{unmet_at}
use Rattle.ref_findings.specs.inner.Nulled.{is_met}
use Rattle.ref_findings.specs.inner.Seen.{seen_survey}
use Rattle.ref_findings.specs.inner.Wanted.{AreMet}
use Rattle.ref_findings.proofs.unready.unmet.Given as goal

abbrev pub invariant-loop-number : goal.invariant-loop-number
invariant-loop-number l =
    (uris : List (List ℕ)) → AreMet l.wants uris
    → AllZip SaysFindings l.lists.items (map (λ e. flat_map (λ p. unmet_at (is_met uris) (e.0, p)) e.1.places) (enumerate_from 0 (map seen_survey (take l.number l.survey-items))))
