use Rattle.std.proofs.Common.{◌≡◌, [], ◌++◌, map, flat_map, take}
use Rattle.ref_definitions.specs.Wants.{faults}
use Rattle.ref_findings.specs.inner.Seen.{seen_survey, sound_in}
use Rattle.ref_findings.proofs.survey.with_sources.Given as goal

abbrev pub invariant-loop-survey : goal.invariant-loop-survey
invariant-loop-survey l = (l.walked ≡ l.initial.walked ++ flat_map (sound_in l.draft) (map seen_survey (take l.survey-index l.surveys))) × (faults l.walked ≡ [])
