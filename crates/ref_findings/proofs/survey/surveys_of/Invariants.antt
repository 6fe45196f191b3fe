use Rattle.std.proofs.Common.{◌≡◌, map, take}
use Rattle.std.specs.List.{AllByRecursion}
use Rattle.ref_findings.specs.Entries.{source_of}
use Rattle.ref_findings.specs.inner.Seen.{PlacesAreThere, seen_survey, survey_in}
use Rattle.ref_findings.proofs.survey.surveys_of.Given as goal

abbrev pub invariant-loop-source : goal.invariant-loop-source
invariant-loop-source l =
    (map seen_survey l.surveys.items ≡ map (survey_in l.draft) (map source_of (take l.source-index l.sources)))
    × AllByRecursion PlacesAreThere l.surveys.items
