use Rattle.std.proofs.Common.{◌≡◌, ◌∙◌, ◌∷◌, ◌++◌, [], map, flat_map, ap, sym, subst, rules, IfOk}
use Rattle.std.specs.Prelude.{if◌then◌else◌}
use Rattle.std.specs.List.{AllZip}
use Rattle.ref_findings.specs.Sources.{sound_document}
use Rattle.ref_findings.specs.Findings.{Known, sources_findings, place_findings}
use Rattle.ref_findings.specs.Entries.{source_of, IsFindingOf}
use Rattle.ref_findings.specs.inner.Seen.{seen_survey, survey_in, site_of, sound_in, read_of, known_among, AreSurveys}
use Rattle.ref_findings.proofs.Knowing.{again_documents, again_own, surveys_are}
use Rattle.ref_findings.proofs.list.read_again.Goals as goal

pub indexes_of-requires-clause-surveys : goal.indexes_of-requires-clause-surveys
indexes_of-requires-clause-surveys c =
    let lent : c.as_slice-3.result.now ≡ c.in_ok-again.again.items = search rules in
    subst (AreSurveys c.args.draft) (sym (ap (map seen_survey) lent ∙ c.in_ok-again.ensures.value)) (surveys_are c.args.draft (map source_of c.as_slice.result.now))

pub indexes_of-requires-clause-others : goal.indexes_of-requires-clause-others
indexes_of-requires-clause-others c =
    let lent : c.as_slice-4.result.now ≡ c.in_ok-others_again.others_again.items = search rules in
    subst (AreSurveys c.args.draft) (sym (ap (map seen_survey) lent ∙ c.in_ok-others_again.ensures.value)) (surveys_are c.args.draft (map source_of c.as_slice-2.result.now))

pub returns : goal.returns
returns c =
    let draft = c.args.draft in
    let b = c.args.bearers.now in
    let ss = map source_of c.args.sources.now in
    let ls = map site_of b.sites.items in
    let rs = map read_of (map seen_survey c.args.surveys.now) in
    let hs = map read_of (map seen_survey c.args.others.now) in
    let i = c.in_ok-indexes.indexes in
    let again : map seen_survey c.as_slice-3.result.now ≡ map (survey_in draft) rs = search rules in
    let others : map seen_survey c.as_slice-4.result.now ≡ map (survey_in draft) hs = search rules in
    let all : i.all ≡ flat_map (sound_document draft) rs ++ flat_map (sound_document draft) hs =
    c.in_ok-indexes.ensures.all ∙ ap (λ l. l ++ flat_map (sound_in draft) (map seen_survey c.as_slice-4.result.now)) (again_documents draft rs (map seen_survey c.as_slice-3.result.now) again)
    ∙ ap (λ l. flat_map (sound_document draft) rs ++ l) (again_documents draft hs (map seen_survey c.as_slice-4.result.now) others) in
    let own : i.own.items ≡ (if b.uris.is_any_twice then map (sound_document draft) rs else []) =
    c.in_ok-indexes.ensures.own ∙ ap (λ l. if b.uris.is_any_twice then l else []) (again_own draft rs (map seen_survey c.as_slice-3.result.now) again) in
    let known = ap (λ l. known_among l i.own.items b.unread ls) all ∙ ap (λ o. known_among (flat_map (sound_document draft) rs ++ flat_map (sound_document draft) hs) o b.unread ls) own in
    record {
      findings = subst (λ (k : Known). IfOk c.reported.result (λ report. AllZip IsFindingOf report.findings.items (sources_findings ss ++ place_findings k ls))) known c.reported.ensures.findings;
      references = c.reported.ensures.references;
    }
