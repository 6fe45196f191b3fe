use Rattle.std.proofs.Common.{◌≡◌, ◌∙◌, ◌++◌, map, flat_map, length, ap, sym, subst, rules}
use Rattle.std.specs.List.{AllZip, enumerate_from}
use Rattle.std.proofs.lemmas.Simd.{map-map}
use Rattle.ref_findings.specs.Bearers.{numbered_sites, sites}
use Rattle.ref_findings.specs.Guessed.{uris_referred}
use Rattle.ref_findings.specs.Findings.{Known, sources_findings, place_findings, known_of, guesses_of, references_at}
use Rattle.ref_findings.specs.Entries.{source_of, IsFindingOf}
use Rattle.ref_findings.specs.inner.Seen.{Survey, seen_survey, survey_in, site_of, AreSurveys}
use Rattle.ref_findings.proofs.Knowing.{sites_are, known_is, surveys_are}
use Rattle.ref_findings.proofs.Guessing.{source_in, sources_same}
use Rattle.ref_findings.proofs.list.report.Goals as goal

pub surveyed-requires-clause-surveys : goal.surveyed-requires-clause-surveys
surveyed-requires-clause-surveys c =
    let lent : c.as_slice-2.result.now ≡ c.in_ok-surveys.surveys.items = search rules in
    subst (AreSurveys c.args.draft) (sym (ap (map seen_survey) lent ∙ c.in_ok-surveys.ensures.value)) (surveys_are c.args.draft (map source_of c.args.sources.now))

pub surveyed-requires-clause-others : goal.surveyed-requires-clause-others
surveyed-requires-clause-others c =
    let lent : c.as_slice-3.result.now ≡ c.in_ok-others.others.items = search rules in
    subst (AreSurveys c.args.draft) (sym (ap (map seen_survey) lent ∙ c.in_ok-others.ensures.value)) (surveys_are c.args.draft (map source_of c.args.held.now))

pub add_guesses-requires : goal.add_guesses-requires
add_guesses-requires c =
    let lent : c.as_slice-4.result.now ≡ c.in_ok-surveys.surveys.items = search rules in
    record {
      surveys = subst (AreSurveys c.args.draft) (sym (ap (map seen_survey) lent ∙ c.in_ok-surveys.ensures.value)) (surveys_are c.args.draft (map source_of c.args.sources.now));
    }

pub returns : goal.returns
returns c =
    let draft = c.args.draft in
    let b = c.in_ok-bearers.bearers in
    let ss = map source_of c.args.sources.now in
    let hs = map source_of c.args.held.now in
    let ls = map site_of b.sites.items in
    let ts = map seen_survey c.as_slice-2.result.now in
    let us = map seen_survey c.as_slice-3.result.now in
    let first : ts ≡ map (survey_in draft) ss = search rules in
    let second : us ≡ map (survey_in draft) hs = search rules in
    let placed : ls ≡ flat_map numbered_sites (enumerate_from 0 (map (λ s. (seen_survey s).places) c.as_slice.result.now)) = search rules in
    let lent : c.as_slice.result.now ≡ c.as_slice-2.result.now = search rules in
    let at_sites : ls ≡ sites draft ss =
    sites_are draft ss ts ls first
    (placed ∙ ap (λ l. flat_map numbered_sites (enumerate_from 0 (map (λ s. (seen_survey s).places) l))) lent
    ∙ ap (λ l. flat_map numbered_sites (enumerate_from 0 l)) (sym (map-map (λ (t : Survey). t.places) seen_survey c.as_slice-2.result.now))) in
    let known = known_is draft ss hs ts us b.uris.is_any_twice b.unread ls first second c.in_ok-bearers.ensures.tables.twice c.in_ok-bearers.ensures.unread at_sites in
    let listed = sources_findings ss ++ place_findings (known_of draft ss hs) (sites draft ss) in
    let before : AllZip IsFindingOf c.in_ok-report.report.findings.items listed =
    subst (λ (k : Known). AllZip IsFindingOf c.in_ok-report.report.findings.items (sources_findings ss ++ place_findings k k.sites)) known c.in_ok-report.ensures.findings in
    let all : c.as_slice-4.result.now ≡ c.as_slice-2.result.now = search rules in
    let same : map source_in c.as_slice-4.result.now ≡ ss =
    ap (map source_in) all ∙ sym (map-map (λ (t : Survey). t.source) seen_survey c.as_slice-2.result.now) ∙ sources_same draft ss ts first in
    let at_them : map site_of c.as_slice-sites.result.now ≡ sites draft ss = search (rules, at_sites) in
    let noted = c.in_ok-add_guesses.ensures.value listed before in
    record {
      findings =
          subst (λ ps. AllZip IsFindingOf c.add_guesses.new.list.items (listed ++ flat_map (guesses_of draft (sites draft ss) (uris_referred draft (sites draft ss))) (enumerate_from 0 ps))) same
          (subst (λ l. AllZip IsFindingOf c.add_guesses.new.list.items (listed ++ flat_map (guesses_of draft l (uris_referred draft l)) (enumerate_from 0 (map source_in c.as_slice-4.result.now)))) at_them noted);
      references = subst (λ l. c.in_ok-report.report.references ≡ length (flat_map references_at l)) at_sites c.in_ok-report.ensures.references;
    }
