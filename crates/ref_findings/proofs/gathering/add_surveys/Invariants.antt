use Rattle.std.proofs.Common.{map, flat_map, take}
use Rattle.ref_findings.specs.inner.Seen.{seen_survey}
use Rattle.ref_findings.specs.inner.Wanted.{Grows, uris_seen, wanted_seen}
use Rattle.ref_findings.proofs.gathering.add_surveys.Given as goal

abbrev pub invariant-loop-survey : goal.invariant-loop-survey
invariant-loop-survey l =
    Grows l.initial.wants l.wants (flat_map uris_seen (map seen_survey (take l.survey-index l.surveys))) (flat_map wanted_seen (map seen_survey (take l.survey-index l.surveys)))
