use Rattle.std.proofs.Common.{List, ℕ, map, flat_map, take}
use Rattle.std.specs.List.{AllZip}
use Rattle.ref_findings.specs.Entries.{IsFindingOf}
use Rattle.ref_findings.specs.Unmet.{unmet_at}
use Rattle.ref_findings.specs.inner.Nulled.{is_met}
use Rattle.ref_findings.specs.inner.Seen.{place_of}
use Rattle.ref_findings.specs.inner.Wanted.{AreMet}
use Rattle.ref_findings.proofs.unready.unmet_in.Given as goal

abbrev pub invariant-loop-place : goal.invariant-loop-place
invariant-loop-place l =
    (uris : List (List ℕ)) → AreMet l.wants uris
    → AllZip IsFindingOf l.list.items (flat_map (λ p. unmet_at (is_met uris) (l.source, p)) (map place_of (take l.place-index l.places)))
