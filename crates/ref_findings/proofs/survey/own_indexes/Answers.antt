use Rattle.std.proofs.Common.{◌≡◌, sym, subst}
use Rattle.std.specs.List.{AllByRecursion}
use Rattle.ref_index.proofs.Noting.{all_at}
use Rattle.ref_findings.specs.inner.Seen.{Survey, PlacesAreThere, seen_survey, survey_in}
use Rattle.ref_findings.proofs.Surveys.{map_same}
use Rattle.ref_findings.proofs.survey.own_indexes.Goals as goal

pub own_index-requires-clause-survey : goal.own_index-requires-clause-survey
own_index-requires-clause-survey c =
    all_at (λ (t : Survey). t ≡ survey_in c.args.draft t.source) seen_survey c.args.surveys.now c.loop-survey.survey-index c.survey-item.result c.requires.surveys c.loop-survey-test.true c.survey-item.is

pub own_index-requires-clause-are_there : goal.own_index-requires-clause-are_there
own_index-requires-clause-are_there c =
    all_at PlacesAreThere (λ s. s) c.args.surveys.now c.loop-survey.survey-index c.survey-item.result (subst (AllByRecursion PlacesAreThere) (sym (map_same c.args.surveys.now)) c.requires.are_there) c.loop-survey-test.true c.survey-item.is
