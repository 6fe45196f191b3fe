use Rattle.std.proofs.Common.{◌≡◌, ◌∷◌, map, flat_map, subst, rules}
use Rattle.std.specs.Option.{option_to_list}
use Rattle.ref_definitions.specs.Resources.{own_uri}
use Rattle.ref_findings.specs.Gathered.{wanted_at}
use Rattle.ref_findings.specs.inner.Seen.{place_of, seen_survey}
use Rattle.ref_findings.specs.inner.Wanted.{Grows, uris_seen, wanted_seen}
use Rattle.ref_findings.proofs.Lists.{joined_at}
use Rattle.ref_findings.proofs.Retrieving.{grown_so}
use Rattle.ref_findings.proofs.gathering.add_surveys.Goals as goal

pub loop-survey-preserved : goal.loop-survey-preserved
loop-survey-preserved c =
    let l = c.loop-survey in
    let s = c.survey-item.result in
    let surveys = c.args.surveys.now in
    let lent : c.as_slice.result.now ≡ s.places.items = search rules in
    let grown = subst
    (λ ps. Grows l.wants c.add_document.new.self (s.source.now.uri ∷ flat_map (λ p. option_to_list (own_uri p)) (map place_of ps)) (flat_map wanted_at (map place_of ps)))
    lent c.in_ok-add_document.ensures in
    grown_so c.args.wants.now l.wants c.add_document.new.self _ _ _ _ _ _ l.invariant grown
    (joined_at uris_seen seen_survey surveys l.survey-index s c.loop-survey-test.true c.survey-item.is)
    (joined_at wanted_seen seen_survey surveys l.survey-index s c.loop-survey-test.true c.survey-item.is)
