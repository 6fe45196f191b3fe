use Rattle.std.proofs.Common.{◌≡◌, ◌∙◌, ℕ, ◌+◌, ◌++◌, ◌∷◌, [], List, map, flat_map, take, ap, subst, sym, rules, arith}
use Rattle.std.specs.List.{AllZip, enumerate_from}
use Rattle.std.proofs.lemmas.List.Folds.{flat_map-map}
use Rattle.ref_findings.specs.Findings.{Finding}
use Rattle.ref_findings.specs.Entries.{source_of, IsFindingOf, SaysFindings}
use Rattle.ref_findings.specs.Sources.{uris_in}
use Rattle.ref_findings.specs.Unmet.{unmet_at}
use Rattle.ref_findings.specs.inner.Nulled.{is_met}
use Rattle.ref_findings.specs.inner.Seen.{Survey, place_of, seen_survey, survey_in}
use Rattle.ref_findings.specs.inner.Wanted.{AreMet, uris_seen}
use Rattle.ref_findings.proofs.Listed.{mapped_step, mapped_end, numbered_mapped}
use Rattle.ref_findings.proofs.Zips.{zip_append}
use Rattle.ref_findings.proofs.unready.unmet.Goals as goal

-- what is unmet at the places of a survey with its number
abbrev found : List (List ℕ) → ℕ × Survey → List Finding
found uris e = flat_map (λ p. unmet_at (is_met uris) (e.0, p)) e.1.places

pub loop-number-preserved : goal.loop-number-preserved
loop-number-preserved c = λ uris met.
    let l = c.loop-number in
    let s = c.survey-item.result in
    let surveys = c.deref-survey-items.result.now in
    let list = c.in_ok-list.list in
    let before = map (found uris) (enumerate_from 0 (map seen_survey (take l.number surveys))) in
    let lent : c.as_slice-in-loop-number.result.now ≡ s.places.items = search rules in
    let says : SaysFindings list (found uris (l.number, seen_survey s)) =
    subst (λ ps. AllZip IsFindingOf list.items (flat_map (λ p. unmet_at (is_met uris) (l.number, p)) (map place_of ps))) lent (c.in_ok-list.ensures uris met) in
    let more = subst (AllZip SaysFindings (l.lists.items ++ list ∷ [])) (sym (mapped_step (found uris) seen_survey surveys l.number s (search rules) (search rules)))
    (zip_append SaysFindings l.lists.items before (list ∷ []) (found uris (l.number, seen_survey s) ∷ []) (l.invariant uris met) (says, tt)) in
    subst (λ lists. AllZip SaysFindings lists (map (found uris) (enumerate_from 0 (map seen_survey (take (l.number + 1) surveys))))) (sym c.in_ok-push.ensures.items) more

pub returns : goal.returns
returns c =
    let l = c.loop-number in
    let draft = c.args.draft in
    let sources = map source_of c.args.sources.now in
    let surveys = c.deref-survey-items.result.now in
    let same : surveys ≡ c.in_ok-surveys.surveys.items = search rules in
    let uris = flat_map (uris_in draft) sources in
    let lent : c.as_slice.result.now ≡ c.in_ok-surveys.surveys.items = search rules in
    let all : map seen_survey c.in_ok-surveys.surveys.items ≡ map (survey_in draft) sources = c.in_ok-surveys.ensures.value in
    let are : map seen_survey surveys ≡ map (survey_in draft) sources = ap (map seen_survey) same ∙ all in
    let met : AreMet c.in_ok-wants.wants uris =
    subst (AreMet c.in_ok-wants.wants) (ap (λ ss. flat_map uris_seen (map seen_survey ss)) lent ∙ ap (flat_map uris_seen) all ∙ flat_map-map uris_seen (survey_in draft) sources) c.in_ok-wants.ensures.met in
    record {
      value = subst (AllZip SaysFindings l.lists.items)
          (mapped_end (found uris) seen_survey surveys l.number (omega arith) ∙ ap (λ ss. map (found uris) (enumerate_from 0 ss)) are ∙ numbered_mapped (found uris) (survey_in draft) 0 sources)
          (l.invariant uris met);
    }
