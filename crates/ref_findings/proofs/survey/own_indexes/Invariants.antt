use Rattle.std.proofs.Common.{◌≡◌, map, take}
use Rattle.ref_findings.specs.inner.Seen.{seen_survey, sound_in}
use Rattle.ref_findings.proofs.survey.own_indexes.Given as goal

abbrev pub invariant-loop-survey : goal.invariant-loop-survey
invariant-loop-survey l = l.list.items ≡ map (sound_in l.draft) (map seen_survey (take l.survey-index l.surveys))
