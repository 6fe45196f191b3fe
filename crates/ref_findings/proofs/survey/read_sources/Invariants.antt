use Rattle.std.proofs.Common.{◌≡◌, map, take}
use Rattle.ref_findings.specs.Entries.{source_of}
use Rattle.ref_findings.specs.inner.Seen.{seen_survey, read_of}
use Rattle.ref_findings.proofs.survey.read_sources.Given as goal

abbrev pub invariant-loop-survey : goal.invariant-loop-survey
invariant-loop-survey l = map source_of l.list.items ≡ map read_of (map seen_survey (take l.survey-index l.surveys))
