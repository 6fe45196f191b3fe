use Rattle.std.proofs.Common.{◌≡◌, map, take}
use Rattle.std.specs.List.{list_any}
use Rattle.ref_findings.specs.inner.Seen.{seen_survey, has_mended}
use Rattle.ref_findings.proofs.survey.is_any_mended.Given as goal

abbrev pub invariant-loop-survey : goal.invariant-loop-survey
invariant-loop-survey l = l.any ≡ list_any has_mended (map seen_survey (take l.survey-index l.surveys))
